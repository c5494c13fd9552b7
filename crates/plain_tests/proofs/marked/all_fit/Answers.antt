use Rattle.std.proofs.Common.{subst}
use Rattle.std.specs.Prelude.{IfOk, MatchBool}
use Rattle.cx_semantics.specs.Marked.{Moment}
use Rattle.plain_tests.specs.Marking.{FitToTheEnd}
use Rattle.plain_tests.proofs.marked.all_fit.Goals as goal

pub returns : goal.returns
returns c =
    let f = c.args.formula.now in
    let events = c.args.events.now in
    subst (λ (m : Moment). IfOk c.events_fit.result (λ b. MatchBool b (FitToTheEnd f m events) (¬ FitToTheEnd f m events))) c.nothing_told-told.ensures c.events_fit.ensures
