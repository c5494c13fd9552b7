use Rattle.std.proofs.Common.{◌∙◌, ap, sym}
use Rattle.std.specs.FinSet as set
use Rattle.proof_rules.specs.VariableMarks.{mark_at, is_odd}
use Rattle.proof_rules.proofs.VariableLaws.{contains-left}
use Rattle.proof_rules.proofs.parity_sum.ParitySum.has.Goals as goal

pub returns : goal.returns
returns c =
    c.is_odd.ensures ∙ ap is_odd (c.mark_at.ensures ∙ (λ i. mark_at (c.deref.ensures.value i) (c.number.ensures.number i)))
    ∙ sym (contains-left c.self.inside.marks.items c.self.inside.met.items c.self.invariant c.args.variable) ∙ ap (λ p. set.contains p.variables c.args.variable) c.self.view_is
