use Rattle.std.proofs.Common.{◌≡◌, ◌∙◌, ap, sym, subst, List, ℕ, ◌++◌}
use Rattle.std.specs.FinSet as set
use Rattle.std.proofs.lemmas.Result.{on_ok_weaker}
use Rattle.proof_rules.specs.Assignments.{AreDistinct}
use Rattle.proof_rules.specs.VariableMarks.{left_over}
use Rattle.proof_rules.proofs.VariableLaws.{distinct-left}
use Rattle.proof_rules.proofs.parity_sum.ParitySum.variables.Goals as goal

pub returns : goal.returns
returns c =
    let marks = c.self.inside.marks.items in
    let met = c.self.inside.met.items in
    on_ok_weaker c.list_left.result
    (λ h.
    let is : ◌≡◌ {A = List ℕ} c.list_left.new.list.items (left_over marks met) =
    h ∙ (λ i. c.clear.ensures.items i ++ left_over (c.deref.ensures.value i) (c.deref-2.ensures.value i)) in
    record {
      same = ap set.from_list is ∙ ap (λ p. p.variables) c.self.view_is;
      once = subst AreDistinct (sym is) (distinct-left marks met c.self.invariant);
      positive = c.list_left.ensures.positive;
    })
    c.list_left.ensures.left
