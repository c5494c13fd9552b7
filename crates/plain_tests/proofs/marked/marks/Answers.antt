use Rattle.std.proofs.Common.{subst, Bool}
use Rattle.std.specs.Prelude.{MatchBool}
use Rattle.cx_semantics.specs.Marked.{first_moment}
use Rattle.plain_tests.specs.Marking.{FitToTheEnd}
use Rattle.plain_tests.proofs.MarkingLaws.{not_to_the_end, marked_so}
use Rattle.plain_tests.proofs.marked.marks.Goals as goal

pub returns-then-not-branch : goal.returns-then-not-branch
returns-then-not-branch c =
    let f = c.args.formula.now in
    let events = c.args.events.now in
    not_to_the_end f events
    (subst (λ (b : Bool). MatchBool b (FitToTheEnd f first_moment events) (¬ FitToTheEnd f first_moment events)) c.if-not-branch.true c.in_ok-all_fit.ensures)

pub returns : goal.returns
returns c =
    let f = c.args.formula.now in
    let events = c.args.events.now in
    marked_so f events c.in-Some.count c.in-Some.ensures c.if-not-begins_with_originals.ensures
    (subst (λ (b : Bool). MatchBool b (FitToTheEnd f first_moment events) (¬ FitToTheEnd f first_moment events)) c.if-not-branch.false c.in_ok-all_fit.ensures)
