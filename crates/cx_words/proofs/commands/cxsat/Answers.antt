use Rattle.std.proofs.Common.{rules, ◌≡◌}
use Rattle.clap.specs.Words.{app_of}
use Rattle.cx_words.specs.CommandLine as line
use Rattle.cx_words.proofs.commands.cxsat.Goals as goal

pub returns : goal.returns
returns c =
    let a : app_of c.subcommand_required-command.result ≡ line.bare = search rules in
    let one = c.in_ok-command.ensures _ line.solve a c.solve.ensures in
    c.with_plain.ensures _ one
