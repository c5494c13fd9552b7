use Rattle.std.proofs.Common.{◌∙◌, ap}
use Rattle.std.proofs.lemmas.Result.{on_ok_weaker}
use Rattle.cx_base.specs.Parity.{normal_form}
use Rattle.proof_rules.specs.Sums.{plus}
use Rattle.proof_rules.proofs.SumLaws.{zero_plus}
use Rattle.proof_rules.proofs.parity_sum.ParitySum.set_to.Goals as goal

pub returns : goal.returns
returns c = on_ok_weaker c.add.result (λ h. h ∙ ap (λ p. plus p (normal_form c.args.lits.now)) c.clear.ensures ∙ zero_plus (normal_form c.args.lits.now)) c.add.ensures
