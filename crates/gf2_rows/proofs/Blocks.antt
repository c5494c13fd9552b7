-- Words taken several at a time.
use Rattle.std.proofs.Common.{◌≡◌, ℕ, ◌+◌, ◌-◌, ◌*◌, ◌/◌, ◌%◌, ◌^◌, ◌<◌, ◌≤◌, zero, suc, Bool, true, false, not, ◌&&◌, List, [], ◌∷◌, map, length, get_or, set, refl, sym, ap, ◌∙◌, subst, count_by, Fits, w64, arith, Option, inl, inr}
use Rattle.std.specs.Int.{bit_not}
use Rattle.std.specs.Int.RustNames.{count_ones, bit_xor, bit_or}
use Rattle.std.specs.Prelude.{bit_and}
use Rattle.std.specs.List.{range_with_len}
use Rattle.std.specs.Simd.Lanes.{zip2, chunk, put_chunk, fold_l, sum_l, Each1}
use Rattle.std.proofs.Math.Facts.{Fits-xor}
use Rattle.std.specs.Slice.Scan.{HoldsNowhere}
use Rattle.std.proofs.Math.Seq.{drop-cons}
use Rattle.std.proofs.lemmas.Nat.{le_or_l, le_or_r, ones-le}
use Rattle.std.proofs.lemmas.Nat.Bits.{bit_at-zero}
use Rattle.std.proofs.lemmas.Bool.{cases_lt}
use Rattle.std.proofs.lemmas.List.{get_or-map, get_or-set_other, get_or-set_same, length-map, length-set}
use Rattle.std.proofs.lemmas.Simd.{length-zip2, length-chunk, get_or-zip2, get_or-chunk, get_or-put_chunk_below, get_or-put_chunk_at, get_or-put_chunk_above}
use Rattle.cx_base.specs.Literals.{differ}
use Rattle.cx_base.specs.Parity.{odd_sum}
use Rattle.gf2_rows.specs.Bits.{word_bit, bit_of, bits_of, is_outside, is_skipped}
use Rattle.cx_base.proofs.Differences.{differ_assoc}
use Rattle.cx_base.proofs.ParityLaws.{differ_false, differ_swap}
use Rattle.gf2_rows.proofs.Words.{IsAddedBelow, parity_of, parity_of-differ, products_upto, products_word, ones_more, sum_of_rows, word_bit-rest}

-- the words of a load, one at a time
chunk-cons : (xs : List ℕ) (i n : ℕ) → i < length xs → chunk i (suc n) xs ≡ get_or xs i 0 ∷ chunk (i + 1) n xs
chunk-cons xs i n lt = let e : i + 1 ≡ suc i = omega arith in rw (e, drop-cons xs i 0 lt) refl

-- ---- sums
-- a block of n words added at once
pub added_block : (old other new : List ℕ) (at n : ℕ) → length new ≡ length old → length old ≡ length other → at + n ≤ length old
    → IsAddedBelow old other new at
    → IsAddedBelow old other (put_chunk at new (zip2 bit_xor (chunk at n new) (chunk at n other))) (at + n)
added_block old other new at n same alike room before =
    let xs : List ℕ = chunk at n new in
    let ys : List ℕ = chunk at n other in
    let longx : length xs ≡ n = length-chunk at n new (omega arith) in
    let longy : length ys ≡ n = length-chunk at n other (omega arith) in
    let long : length (zip2 bit_xor xs ys) ≡ n = length-zip2 bit_xor xs ys (longx ∙ sym longy) ∙ longx in (
      λ k lt.
          elim (cases_lt k at) [
            | inl low ↦ get_or-put_chunk_below at new (zip2 bit_xor xs ys) k 0 low ∙ before.0 k low
            | inr high ↦
                let j : ℕ = k - at in
                let here : at + j ≡ k = omega arith in
                subst (λ m. get_or (put_chunk at new (zip2 bit_xor xs ys)) m 0 ≡ bit_xor (get_or old m 0) (get_or other m 0)) here
                (get_or-put_chunk_at at new (zip2 bit_xor xs ys) j 0 (omega arith) (omega arith)
                ∙ get_or-zip2 bit_xor xs ys j 0 0 0 (omega arith) (omega arith)
                ∙ ap (λ x. bit_xor x (get_or ys j 0)) (get_or-chunk at n new j 0 (omega arith) ∙ before.1 (at + j) (omega arith))
                ∙ ap (bit_xor (get_or old (at + j) 0)) (get_or-chunk at n other j 0 (omega arith)))
          ],
      λ k ge. get_or-put_chunk_above at new (zip2 bit_xor xs ys) k 0 (omega arith) ∙ before.1 k (omega arith),
    )

-- the last word added after the others
pub added_last : (old other new : List ℕ) (last n : ℕ) → n ≡ last → length old ≡ last + 1 → length new ≡ length old → length old ≡ length other → IsAddedBelow old other new n
    → bits_of (set new last (bit_xor (get_or new last 0) (get_or other last 0))) ≡ zip2 differ (bits_of old) (bits_of other)
added_last old other new last n here long same alike before =
    let v : ℕ = bit_xor (get_or new last 0) (get_or other last 0) in
    sum_of_rows (set new last v) old other (length-set new last v ∙ same) alike
    (λ k lt.
    elim (cases_lt k last) [
      | inl low ↦ get_or-set_other new last k v 0 (λ e. omega arith) ∙ before.0 k (omega arith)
      | inr high ↦
          let at : last ≡ k = omega arith in
          subst (λ m. get_or (set new last v) m 0 ≡ bit_xor (get_or old m 0) (get_or other m 0)) at
          (get_or-set_same new last v 0 (omega arith) ∙ ap (λ x. bit_xor x (get_or other last 0)) (before.1 last (omega arith)))
    ])

-- ---- products
pub parity-lanes : (xs ys : List ℕ) → length xs ≡ length ys → odd_sum (map parity_of (zip2 bit_xor xs ys)) ≡ differ (odd_sum (map parity_of xs)) (odd_sum (map parity_of ys))
parity-lanes [] [] e = refl
parity-lanes [] (y ∷ ys) e = absurd (omega arith)
parity-lanes (x ∷ xs) [] e = absurd (omega arith)
parity-lanes (x ∷ xs) (y ∷ ys) e =
    ap (λ b. differ b (odd_sum (map parity_of (zip2 bit_xor xs ys)))) (parity_of-differ x y)
    ∙ ap (differ (differ (parity_of x) (parity_of y))) (parity-lanes xs ys (omega arith))
    ∙ differ_swap (parity_of x) (parity_of y) (odd_sum (map parity_of xs)) (odd_sum (map parity_of ys))

pub parity-reduced : (s : ℕ) (xs : List ℕ) → parity_of (fold_l bit_xor s xs) ≡ differ (parity_of s) (odd_sum (map parity_of xs))
parity-reduced s [] = sym (differ_false (parity_of s))
parity-reduced s (x ∷ xs) =
    parity-reduced (bit_xor s x) xs ∙ ap (λ b. differ b (odd_sum (map parity_of xs))) (parity_of-differ s x)
    ∙ differ_assoc (parity_of s) (parity_of x) (odd_sum (map parity_of xs))

-- the lanes' sum is a word
pub reduced_lt : (s : ℕ) (xs : List ℕ) → Fits w64 s → Each1 (Fits w64) xs → Fits w64 (fold_l bit_xor s xs)
reduced_lt s [] small each = small
reduced_lt s (x ∷ xs) small each = reduced_lt (bit_xor s x) xs (Fits-xor small each.0) each.1

pub products_block : (a b : List ℕ) (i n : ℕ) → i + n ≤ length a → length a ≡ length b
    → products_upto a b (64 * (i + n)) ≡ differ (products_upto a b (64 * i)) (odd_sum (map parity_of (zip2 bit_and (chunk i n a) (chunk i n b))))
products_block a b i zero room alike = let e : i + 0 ≡ i = omega arith in rw e (sym (differ_false (products_upto a b (64 * i))))
products_block a b i (suc n) room alike =
    let e : i + suc n ≡ i + 1 + n = omega arith in
    rw (e, chunk-cons a i n (omega arith), chunk-cons b i n (omega arith))
    (products_block a b (i + 1) n (omega arith) alike
    ∙ ap (λ x. differ x (odd_sum (map parity_of (zip2 bit_and (chunk (i + 1) n a) (chunk (i + 1) n b))))) (products_word a b i)
    ∙ differ_assoc (products_upto a b (64 * i)) (parity_of (bit_and (get_or a i 0) (get_or b i 0))) (odd_sum (map parity_of (zip2 bit_and (chunk (i + 1) n a) (chunk (i + 1) n b)))))

-- ---- ones
pub ones_upto_block : (words : List ℕ) (i n : ℕ) → i + n ≤ length words → ((k : ℕ) → get_or words k 0 < 2 ^ 64)
    → count_by (λ b. b) (map (bit_of words) (range_with_len 0 (64 * (i + n)))) ≡ count_by (λ b. b) (map (bit_of words) (range_with_len 0 (64 * i))) + sum_l (map count_ones (chunk i n words))
ones_upto_block words i zero room small = let e : i + 0 ≡ i = omega arith in rw e (omega arith)
ones_upto_block words i (suc n) room small =
    let e : i + suc n ≡ i + 1 + n = omega arith in
    let rest = ones_upto_block words (i + 1) n (omega arith) small in
    let one = ones_more words i (small i) in
    rw (e, chunk-cons words i n (omega arith)) (omega arith)

pub ones_small : (words : List ℕ) (i n : ℕ) → i + n ≤ length words → ((k : ℕ) → get_or words k 0 < 2 ^ 64) → sum_l (map count_ones (chunk i n words)) ≤ 64 * n
ones_small words i zero room small = omega arith
ones_small words i (suc n) room small =
    let rest = ones_small words (i + 1) n (omega arith) small in
    let one = ones-le 64 (get_or words i 0) (small i) in
    rw (chunk-cons words i n (omega arith)) (omega arith)

-- the sum of the lanes' counts, which fits a lane
pub counts_added : (s : ℕ) (xs : List ℕ) → s + sum_l xs < 2 ^ 64 → fold_l (λ s x. (s + x) % 2 ^ 64) s (map (λ x. x) xs) ≡ s + sum_l xs
counts_added s [] fits = let e : s ≡ s + 0 = omega arith in e
counts_added s (x ∷ xs) fits =
    let e : (s + x) % 2 ^ 64 ≡ s + x = omega arith in
    let more : s + x + sum_l xs ≡ s + (x + sum_l xs) = omega arith in
    ap (λ n. fold_l (λ t y. (t + y) % 2 ^ 64) n (map (λ y. y) xs)) e ∙ counts_added (s + x) xs (omega arith) ∙ more

-- ---- a block without an open bit
none_joined : (s : ℕ) (xs : List ℕ) → fold_l bit_or s xs ≡ 0 → (s ≡ 0) × ((j : ℕ) → get_or xs j 0 ≡ 0)
none_joined s [] h = (h, λ j. refl)
none_joined s (x ∷ xs) h =
    let rest = none_joined (bit_or s x) xs h in
    (omega (arith, le_or_l s x, rest.0), elim [ zero ↦ omega (arith, le_or_r s x, rest.0) | suc j ↦ rest.1 j ])

no_and : (a b : Bool) → (a && b) ≡ false → (c : Bool) → (a && (b && c)) ≡ false
no_and true true h c = cc
no_and true false h c = refl
no_and false b h c = refl

pub nothing_in_block : (row mask : List ℕ) (skip : Option ℕ) (from i n : ℕ) → i + n ≤ length row → length row ≡ length mask
    → ((k : ℕ) → get_or mask k 0 < 2 ^ 64)
    → fold_l bit_or 0 (zip2 bit_and (chunk i n row) (map (bit_not w64) (chunk i n mask))) ≡ 0
    → HoldsNowhere (is_outside row mask skip) from (64 * i) → HoldsNowhere (is_outside row mask skip) from (64 * (i + n))
nothing_in_block row mask skip from i n room alike small none before k low high =
    elim (cases_lt k (64 * i)) [
      | inl lt ↦ before k low lt
      | inr ge ↦
          let j : ℕ = k / 64 - i in
          let here : i + j ≡ k / 64 = omega arith in
          let within : j < n = omega arith in
          let xs : List ℕ = chunk i n row in
          let ys : List ℕ = chunk i n mask in
          let longx : length xs ≡ n = length-chunk i n row (omega arith) in
          let longy : length ys ≡ n = length-chunk i n mask (omega arith) in
          let lane : bit_and (get_or row (k / 64) 0) (bit_not w64 (get_or mask (k / 64) 0)) ≡ 0 =
          subst (λ m. bit_and (get_or row m 0) (bit_not w64 (get_or mask m 0)) ≡ 0) here
          (ap (λ x. bit_and x (bit_not w64 (get_or mask (i + j) 0))) (sym (get_or-chunk i n row j 0 within))
          ∙ ap (bit_and (get_or xs j 0)) (ap (bit_not w64) (sym (get_or-chunk i n mask j 0 within)) ∙ sym (get_or-map (bit_not w64) ys j 0 0 (omega arith)))
          ∙ sym (get_or-zip2 bit_and xs (map (bit_not w64) ys) j 0 0 0 (omega arith) (omega (arith, length-map ys (bit_not w64))))
          ∙ (none_joined 0 (zip2 bit_and xs (map (bit_not w64) ys)) none).1 j) in
          no_and (word_bit (get_or row (k / 64) 0) (k % 64)) (not (word_bit (get_or mask (k / 64) 0) (k % 64)))
          (sym (word_bit-rest (get_or row (k / 64) 0) (get_or mask (k / 64) 0) (k % 64) (small (k / 64)) (omega arith)) ∙ rw (lane, bit_at-zero (k % 64)) refl)
          (not (is_skipped skip k))
    ]
