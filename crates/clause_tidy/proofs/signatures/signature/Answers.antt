use Rattle.std.proofs.Common.{ap, refl, ◌∙◌, ◌%◌, arith}
use Rattle.clause_tidy.proofs.SignatureLaws.{one_more}
use Rattle.clause_tidy.proofs.signatures.signature.Goals as goal

pub loop-lit-preserved : goal.loop-lit-preserved
loop-lit-preserved c = one_more c.loop-lit.signature _ (c.number.result % 64) (omega arith) refl c.args.lits.now c.loop-lit.lit-index c.lit-item.result c.loop-lit-test.true c.lit-item.is (ap (λ n. n % 64) (c.number.ensures.number ∙ c.var.ensures)) c.loop-lit.invariant
