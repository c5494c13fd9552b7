use Rattle.std.proofs.Common.{arith}
use Rattle.std.proofs.Math.ListN.{get_or-eq_default}
use Rattle.gf2_matrix.proofs.Spans.{zero_from}
use Rattle.gf2_matrix.proofs.span.end_of.Goals as goal

pub loop-end-init : goal.loop-end-init
loop-end-init c = (c.requires, omega arith, λ i ge. get_or-eq_default c.args.words.now 0 ge)

pub loop-end-preserved : goal.loop-end-preserved
loop-end-preserved c = (omega arith, omega arith, zero_from c.args.words.now c.loop-end.end c.if-word-ne0.false c.loop-end.invariant.2)
