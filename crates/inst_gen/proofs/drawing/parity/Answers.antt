use Rattle.std.proofs.Common.{◌∙◌, ap, not}
use Rattle.cx_base.specs.Literals.{positive_of}
use Rattle.inst_gen.proofs.Steps.{parity_made}
use Rattle.inst_gen.proofs.drawing.parity.Goals as goal

pub returns : goal.returns
returns c = parity_made c.args.values.now c.args.variable c.args.first c.args.second _ _ _ _ c.has_odd_true-is_odd.result
    (c.new-2.ensures ∙ ap positive_of c.new.ensures) c.below.ensures c.below-2.ensures c.has_odd_true-is_odd.ensures
    (c.new-4.ensures ∙ (λ i. record { variable = c.new-3.ensures i; negative = not c.has_odd_true-is_odd.result }))
