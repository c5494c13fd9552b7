use Rattle.std.proofs.Common.{◌∙◌, ap}
use Rattle.std.proofs.lemmas.Result.{on_ok_weaker}
use Rattle.proof_rules.specs.Sums.{flipped}
use Rattle.proof_rules.proofs.VariableLaws.{left-flipped}
use Rattle.proof_rules.proofs.parity_sum.ParitySum.flip.Goals as goal

pub returns : goal.returns
returns c =
    on_ok_weaker c.meet.result
    (λ h. (λ i. record { variables = left-flipped c.self.inside.marks.items c.meet.new.marks.items c.self.inside.met.items c.meet.new.met.items c.args.variable c.self.invariant c.meet.ensures.marked h i; right_side = c.self.inside.right_side })
    ∙ ap (λ p. flipped p c.args.variable) c.self.view_is)
    c.meet.ensures.flipped
