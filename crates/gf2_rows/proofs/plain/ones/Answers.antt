use Rattle.std.proofs.Common.{◌∙◌, arith, get_or}
use Rattle.std.proofs.lemmas.Nat.{ones-le}
use Rattle.gf2_rows.proofs.Words.{ones_more, ones_of_row}
use Rattle.gf2_rows.proofs.plain.ones.Goals as goal

pub loop-word-preserved : goal.loop-word-preserved
loop-word-preserved c =
    let fits = c.type_inv.row c.loop-word.word-index in
    let more = ones_more c.args.row.now c.loop-word.word-index fits.fits in
    (omega (arith, more), omega (arith, ones-le 64 (get_or c.args.row.now c.loop-word.word-index 0) fits.fits))

pub returns : goal.returns
returns c = c.loop-word.invariant.0 ∙ ones_of_row c.args.row.now c.loop-word.word-index (omega arith)
