use Rattle.std.proofs.Common.{◌<◌, subst, ℕ, Bool, arith}
use Rattle.std.specs.Prelude.{MatchBool}
use Rattle.plain_tests.specs.Marking.{IsKept}
use Rattle.plain_tests.proofs.KeptLaws.{all_kept, one_not_kept}
use Rattle.plain_tests.proofs.fitting.keeps_formula.Goals as goal

pub returns-then-not-branch : goal.returns-then-not-branch
returns-then-not-branch c =
    let table = c.args.live.now.clauses in
    let clause = c.clause_at.result.now in
    one_not_kept c.args.formula.now table c.loop-place.place clause
    (subst (λ (n : ℕ). c.loop-place.place < n) c.clause_count-place-end.ensures c.loop-place-test.true)
    c.clause_at.ensures
    (subst (λ (b : Bool). MatchBool b (IsKept table clause) (¬ IsKept table clause)) c.if-not-branch.true c.in_ok-is_kept.ensures)

pub returns : goal.returns
returns c =
    let past = c.loop-place-test.false in
    let long = c.clause_count-place-end.ensures in
    all_kept c.args.formula.now c.args.live.now.clauses (λ i less. c.loop-place.invariant i (omega (arith, less, past, long)))
