use Rattle.std.proofs.Common.{◌∙◌, sym, arith}
use Rattle.gf2_rows.proofs.Words.{parity_of-zero, products_more, products_of_rows, parity_of-ones}
use Rattle.gf2_rows.proofs.plain.parity_and.Goals as goal

pub loop-i-init : goal.loop-i-init
loop-i-init c = parity_of-zero

pub loop-i-preserved : goal.loop-i-preserved
loop-i-preserved c = products_more c.args.a.now c.args.b.now c.loop-i.i c.loop-i.sum c.loop-i.invariant

pub returns : goal.returns
returns c =
    sym (parity_of-ones c.loop-i.sum c.loop-i.auto.sum-fits.fits) ∙ c.loop-i.invariant
    ∙ products_of_rows c.args.a.now c.args.b.now c.loop-i.i (omega arith) c.requires
