-- One more of the few words.
use Rattle.std.proofs.Common.{◌≡◌, ℕ, zero, suc, ◌+◌, ◌*◌, ◌<◌, ◌≤◌, ◌&&◌, not, List, [], ◌∷◌, take, length, get_or, set, sym, ap, ◌∙◌, subst, count_by, arith, Option}
use Rattle.std.specs.Prelude.{bit_and}
use Rattle.std.specs.Int.RustNames.{bit_xor}
use Rattle.std.specs.Simd.Lanes.{zip2}
use Rattle.std.proofs.Math.Seq.{take-suc}
use Rattle.std.specs.Slice.Scan.{HoldsNowhere}
use Rattle.cx_base.specs.Literals.{differ}
use Rattle.cx_base.specs.Parity.{odd_sum}
use Rattle.gf2_rows.specs.Bits.{word_bit, bit_of, bits_of, is_skipped, is_outside}
use Rattle.gf2_rows.specs.Few.{laid_out, AreFew, FirstFrom, least_of, is_bit_in}
use Rattle.gf2_rows.proofs.Words.{parity_of, parity_of-differ, parity_of-zero}
use Rattle.gf2_rows.proofs.Entries.{length-laid_out, laid_out-zero, laid_out-more, laid_next}
use Rattle.gf2_rows.proofs.Earliest.{first_of_either}
use Rattle.gf2_rows.proofs.PutWords.{zeros_bit, bit_of-put, zeros_outside, is_outside-put, ones-put, ones-push, ones-zeros, product-put, product-zeros}

-- ---- before the first
pub product_begin : (len : ℕ) (ps ws ys : List ℕ) → len ≡ length ys → parity_of 0 ≡ odd_sum (zip2 ◌&&◌ (bits_of (laid_out len 0 ps ws)) (bits_of ys))
product_begin len ps ws ys alike = parity_of-zero ∙ sym (ap (λ l. odd_sum (zip2 ◌&&◌ (bits_of l) (bits_of ys))) (laid_out-zero len ps ws) ∙ product-zeros len ys alike)

pub one_begin : (len : ℕ) (ps ws : List ℕ) (from to : ℕ) → HoldsNowhere (bit_of (laid_out len 0 ps ws)) from to
one_begin len ps ws from to k low high = ap (λ l. bit_of l k) (laid_out-zero len ps ws) ∙ zeros_bit len k

pub open_begin : (len : ℕ) (ps ws mask : List ℕ) (skip : Option ℕ) (from to : ℕ) → HoldsNowhere (is_outside (laid_out len 0 ps ws) mask skip) from to
open_begin len ps ws mask skip from to k low high = ap (λ l. is_outside l mask skip k) (laid_out-zero len ps ws) ∙ zeros_outside len mask skip k

-- ---- one more
module _ (len count : ℕ) (ps ws : List ℕ) (few : AreFew len count ps) (i : ℕ) (lt : i < count) where
  room : get_or ps i 0 < length (laid_out len i ps ws)
  room = omega (arith, few.within i lt, length-laid_out len i ps ws)

  none : get_or (laid_out len i ps ws) (get_or ps i 0) 0 ≡ 0
  none = laid_next len i ps ws count lt few.apart

  pub product_step : (ys : List ℕ) (sum : ℕ) → len ≡ length ys → parity_of sum ≡ odd_sum (zip2 ◌&&◌ (bits_of (laid_out len i ps ws)) (bits_of ys))
      → parity_of (bit_xor sum (bit_and (get_or ws i 0) (get_or ys (get_or ps i 0) 0))) ≡ odd_sum (zip2 ◌&&◌ (bits_of (laid_out len (i + 1) ps ws)) (bits_of ys))
  product_step ys sum alike e =
      let w : ℕ = bit_and (get_or ws i 0) (get_or ys (get_or ps i 0) 0) in
      parity_of-differ sum w ∙ ap (λ b. differ b (parity_of w)) e
      ∙ sym (product-put (laid_out len i ps ws) ys (get_or ps i 0) (get_or ws i 0) room (length-laid_out len i ps ws ∙ alike) none)
      ∙ ap (λ l. odd_sum (zip2 ◌&&◌ (bits_of l) (bits_of ys))) (sym (laid_out-more len i ps ws))

  pub one_step : (from : ℕ) (best next : Option ℕ) → FirstFrom (bit_of (laid_out len i ps ws)) from (64 * len) best → FirstFrom (is_bit_in (get_or ws i 0) (get_or ps i 0)) from (64 * len) next
      → FirstFrom (bit_of (laid_out len (i + 1) ps ws)) from (64 * len) (least_of best next)
  one_step from best next p q =
      first_of_either (bit_of (laid_out len i ps ws)) (is_bit_in (get_or ws i 0) (get_or ps i 0)) (bit_of (laid_out len (i + 1) ps ws)) from (64 * len)
      (λ k. ap (λ l. bit_of l k) (laid_out-more len i ps ws) ∙ bit_of-put (laid_out len i ps ws) (get_or ps i 0) (get_or ws i 0) k room none)
      best next p q

  pub open_step : (mask : List ℕ) (skip : Option ℕ) (from found : ℕ) (best next : Option ℕ)
      → ((j : ℕ) → j < 64 → word_bit found j ≡ (word_bit (get_or ws i 0) j && (not (word_bit (get_or mask (get_or ps i 0) 0) j) && not (is_skipped skip (64 * get_or ps i 0 + j)))))
      → FirstFrom (is_outside (laid_out len i ps ws) mask skip) from (64 * len) best → FirstFrom (is_bit_in found (get_or ps i 0)) from (64 * len) next
      → FirstFrom (is_outside (laid_out len (i + 1) ps ws) mask skip) from (64 * len) (least_of best next)
  open_step mask skip from found best next bits p q =
      first_of_either (is_outside (laid_out len i ps ws) mask skip) (is_bit_in found (get_or ps i 0)) (is_outside (laid_out len (i + 1) ps ws) mask skip) from (64 * len)
      (λ k. ap (λ l. is_outside l mask skip k) (laid_out-more len i ps ws) ∙ is_outside-put (laid_out len i ps ws) mask skip (get_or ps i 0) (get_or ws i 0) found k room none bits)
      best next p q

-- ---- all of them
-- the ones are those of the few words
pub ones_of_few : (len : ℕ) (ps ws : List ℕ) (n m : ℕ) → n ≤ m → AreFew len m ps → m ≤ length ws
    → count_by (λ b. b) (bits_of (laid_out len n ps ws)) ≡ count_by (λ b. b) (bits_of (take n ws))
ones_of_few len ps ws zero m order few long = ap (λ l. count_by (λ b. b) (bits_of l)) (laid_out-zero len ps ws) ∙ ones-zeros len ∙ sym (ones-zeros 0)
ones_of_few len ps ws (suc n) m order few long =
    let lt : n < m = omega arith in
    let all : List ℕ = laid_out len n ps ws in
    let place : get_or ps n 0 < length all = omega (arith, few.within n lt, length-laid_out len n ps ws) in
    let next : laid_out len (suc n) ps ws ≡ set all (get_or ps n 0) (get_or ws n 0) = subst (λ k. laid_out len k ps ws ≡ set all (get_or ps n 0) (get_or ws n 0)) (omega arith) (laid_out-more len n ps ws) in
    ap (λ l. count_by (λ b. b) (bits_of l)) next
    ∙ ones-put all (get_or ps n 0) (get_or ws n 0) place (laid_next len n ps ws m lt few.apart)
    ∙ ap (λ k. k + count_by (λ b. b) (bits_of (get_or ws n 0 ∷ []))) (ones_of_few len ps ws n m (omega arith) few long)
    ∙ sym (ones-push (take n ws) (get_or ws n 0))
    ∙ ap (λ l. count_by (λ b. b) (bits_of l)) (sym (take-suc ws n 0 (omega arith)))
