use Rattle.std.proofs.Common.{take, fold}
use Rattle.clap.specs.Words.{new_app, with_rule}
use Rattle.cx_words.specs.CommandLine as line
use Rattle.cx_words.proofs.Builds.{IsMade}
use Rattle.cx_words.proofs.commands.taking.Given as goal

abbrev pub invariant-loop-id : goal.invariant-loop-id
invariant-loop-id l = IsMade l.command (fold (λ a id. with_rule a (line.needed id.now)) (new_app l.name) (take l.id-index l.ids))
