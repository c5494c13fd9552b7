use Rattle.std.proofs.Common.{◌≡◌, ◌+◌, ◌∙◌, ap, arith, get_or}
use Rattle.std.specs.Int.RustNames.{count_ones}
use Rattle.std.proofs.lemmas.Nat.{ones-le}
use Rattle.gf2_rows.proofs.Words.{ones_before, ones_more, ones_of_row}
use Rattle.gf2_rows.proofs.PutWords.{ones_of_zero}
use Rattle.gf2_rows.proofs.plain.fewer_ones.Goals as goal

pub loop-word-preserved-then-word-eq0 : goal.loop-word-preserved-then-word-eq0
loop-word-preserved-then-word-eq0 c =
    let fits = c.type_inv.row c.loop-word.word-index in
    let more = ones_more c.args.row.now c.loop-word.word-index fits.fits in
    let none : count_ones (get_or c.args.row.now c.loop-word.word-index 0) ≡ 0 = ap count_ones c.if-word-eq0.true ∙ ones_of_zero in
    (omega (arith, more, none), omega arith)

pub loop-word-preserved : goal.loop-word-preserved
loop-word-preserved c =
    let fits = c.type_inv.row c.loop-word.word-index in
    let more = ones_more c.args.row.now c.loop-word.word-index fits.fits in
    (omega (arith, more), omega (arith, ones-le 64 (get_or c.args.row.now c.loop-word.word-index 0) fits.fits))

pub returns-then-count-limit : goal.returns-then-count-limit
returns-then-count-limit c =
    let fits = c.type_inv.row c.loop-word.word-index in
    let more = ones_more c.args.row.now c.loop-word.word-index fits.fits in
    omega (arith, more, ones_before c.args.row.now (c.loop-word.word-index + 1) (omega arith))

pub returns-then-count-limit-2 : goal.returns-then-count-limit-2
returns-then-count-limit-2 c = (c.loop-word.invariant.0 ∙ ones_of_row c.args.row.now c.loop-word.word-index (omega arith), c.if-count-limit-2.true)

pub returns-else-count-limit-2 : goal.returns-else-count-limit-2
returns-else-count-limit-2 c = omega (arith, c.loop-word.invariant.0, ones_before c.args.row.now c.loop-word.word-index (omega arith))
