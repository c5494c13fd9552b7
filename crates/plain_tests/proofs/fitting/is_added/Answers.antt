use Rattle.std.proofs.Common.{◌∙◌, subst, List}
use Rattle.std.specs.Prelude.{IfOk, MatchBool}
use Rattle.cx_base.specs.Integers.{literals}
use Rattle.cx_base.specs.Literals.{Literal}
use Rattle.cx_semantics.specs.Marked.{IsKnown}
use Rattle.plain_tests.specs.Marking.{moment_of}
use Rattle.plain_tests.proofs.MarkingLaws.{known_added}
use Rattle.plain_tests.proofs.fitting.is_added.Goals as goal

pub returns : goal.returns
returns c =
    let m = moment_of c.args.told.now in
    known_added c.is_known.result c.args.ends m (literals c.args.integers.now) c.if-told.false c.if-ends.false
    (subst (λ (lits : List Literal). IfOk c.is_known.result (λ b. MatchBool b (IsKnown m lits) (¬ IsKnown m lits))) (c.as_slice-2.ensures ∙ c.in_ok-lits.ensures) c.is_known.ensures)
