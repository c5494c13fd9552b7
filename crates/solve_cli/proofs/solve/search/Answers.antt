use Rattle.std.proofs.Common.{IfOk, Result, subst}
use Rattle.cx_texts.specs.Printed.{printed_log}
use Rattle.solve_cli.specs.declared.ending.Ending.{Ending}
use Rattle.solve_cli.specs.declared.ending.Outcome.{Outcome}
use Rattle.solve_cli.specs.Solving.{ComesTo, plain_options}
use Rattle.solve_cli.proofs.Logging.{list_log}
use Rattle.solve_cli.proofs.Searching.{finds}
use Rattle.solve_cli.proofs.solve.search.Goals as goal

pub returns-in-Ok : goal.returns-in-Ok
returns-in-Ok c =
    let f = c.args.formula.now in
    let options = plain_options c.args.conflicts in
    let events = c.solve_core-answer.new.sink in
    let e = c.solve_core-answer.ensures in
    let is = list_log f c.args.conflicts events c.events-with_texts.ensures.texts e.ids e.unmarked in
    let found = finds f options (printed_log events) events c.solve_core-answer.result c.answered.result c.answered.ensures is e.answers e.settled_with_recovered in
    subst (λ (x : Result Ending Outcome). IfOk x (ComesTo f options (printed_log events))) c.in-Ok.is found
