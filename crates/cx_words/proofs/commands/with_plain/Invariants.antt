use Rattle.std.proofs.Common.{◌≡◌, fold, map, take}
use Rattle.clap.specs.Words.{App, app_of, with_subcommand}
use Rattle.cx_words.specs.CommandLine as line
use Rattle.cx_words.proofs.commands.with_plain.Given as goal

abbrev pub invariant-loop-name : goal.invariant-loop-name
invariant-loop-name l =
    app_of l.command ≡ fold (λ (b : App) p. with_subcommand b (line.command p.0.now (map (λ id. line.needed id.now) p.1.now)).top) (app_of l.initial.command) (take l.name-index l.plain)
