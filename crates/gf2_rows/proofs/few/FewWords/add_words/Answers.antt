use Rattle.std.proofs.Common.{◌≡◌, ◌+◌, ◌<◌, sym, subst, arith, rules, length, get_or, set}
use Rattle.std.specs.Int.RustNames.{bit_xor}
use Rattle.gf2_rows.specs.Few.{AddsWithin}
use Rattle.gf2_rows.proofs.Adding.{adds_word}
use Rattle.gf2_rows.proofs.few.FewWords.add_words.Goals as goal

pub loop-place-preserved : goal.loop-place-preserved
loop-place-preserved c =
    let old = c.args.self.now in
    let words = c.args.words.now in
    let at = c.loop-place.place in
    let before = c.loop-place.self in
    let long = c.loop-place.invariant.len in
    let room : at < length before = omega arith in
    let e : c.add_word.new.self ≡ set before at (bit_xor (get_or before at 0) (get_or words at 0)) = search rules in
    subst (AddsWithin old words c.args.low (at + 1)) (sym e) (adds_word old words before c.args.low at (omega arith) room c.loop-place.invariant)
