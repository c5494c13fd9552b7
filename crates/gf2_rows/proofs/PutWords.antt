-- A row in which a word is put at a place that is zero.
use Rattle.std.proofs.Common.{◌≡◌, ℕ, zero, suc, ◌+◌, ◌-◌, ◌≤◌, take, drop, ◌*◌, ◌/◌, ◌%◌, ◌<◌, ◌^◌, Bool, false, not, ◌||◌, ◌&&◌, List, [], ◌∷◌, map, length, get_or, set, ◌++◌, replicate, refl, sym, ap, ◌∙◌, subst, cond, count_by, arith, inl, inr, Option, zero-add}
use Rattle.std.specs.Prelude.{bit_and}
use Rattle.std.specs.Int.Bits.{and_zero_l}
use Rattle.std.specs.Int.RustNames.{count_ones}
use Rattle.std.specs.List.{range_with_len}
use Rattle.std.specs.Simd.Lanes.{zip2}
use Rattle.std.proofs.Math.Bool.{or-false}
use Rattle.std.proofs.lemmas.Nat.Bits.{bit_at-zero}
use Rattle.std.proofs.lemmas.List.{get_or-set_same, get_or-set_other, length-replicate, length-append, length-drop}
use Rattle.std.proofs.Math.Seq.{take-append_seam, drop-append_seam}
use Rattle.cx_base.proofs.ParityLaws.{differ_false}
use Rattle.std.proofs.lemmas.List.Sums.{sum_by-cons, sum_by-append}
use Rattle.std.proofs.lemmas.Bool.{cases_eq, eq-eqb, ne_eqb}
use Rattle.cx_base.specs.Literals.{differ}
use Rattle.cx_base.specs.Parity.{odd_sum}
use Rattle.cx_base.proofs.Differences.{differ_assoc, differ_turned}
use Rattle.gf2_rows.specs.Bits.{word_bit, bit_of, bits_of, is_skipped, is_outside}
use Rattle.gf2_rows.specs.Few.{is_bit_in, padded}
use Rattle.gf2_rows.proofs.Entries.{zeros_at}
use Rattle.gf2_rows.proofs.Words.{range_same, parity-append, parity-none, parity_of, parity_of-zero, products_word, products_of_rows, ones_more, ones_of_row, length-bits, bits-append, zip2-append, open_of_word, products_in_two}

-- ---- bits
pub no_bit : (k : ℕ) → word_bit 0 k ≡ false
no_bit k = rw (bit_at-zero k) refl

pub zeros_bit : (n k : ℕ) → bit_of (replicate n 0) k ≡ false
zeros_bit n k = ap (λ w. word_bit w (k % 64)) (zeros_at n (k / 64)) ∙ no_bit (k % 64)

zero_bit : (xs : List ℕ) (p k : ℕ) → get_or xs p 0 ≡ 0 → k / 64 ≡ p → bit_of xs k ≡ false
zero_bit xs p k none e = ap (λ i. word_bit (get_or xs i 0) (k % 64)) e ∙ ap (λ w. word_bit w (k % 64)) none ∙ no_bit (k % 64)

pub bit_of-put : (xs : List ℕ) (p v k : ℕ) → p < length xs → get_or xs p 0 ≡ 0 → bit_of (set xs p v) k ≡ (is_bit_in v p k || bit_of xs k)
bit_of-put xs p v k lt none =
    elim (cases_eq (k / 64) p) [
      | inl e ↦
          ap (λ i. word_bit (get_or (set xs p v) i 0) (k % 64)) e ∙ ap (λ w. word_bit w (k % 64)) (get_or-set_same xs p v 0 lt)
          ∙ sym (or-false (word_bit v (k % 64))) ∙ ap (λ b. word_bit v (k % 64) || b) (sym (zero_bit xs p k none e))
          ∙ ap (λ b. b && word_bit v (k % 64) || bit_of xs k) (sym (eq-eqb (k / 64) p e))
      | inr ne ↦
          ap (λ w. word_bit w (k % 64)) (get_or-set_other xs p (k / 64) v 0 ne)
          ∙ ap (λ b. b && word_bit v (k % 64) || bit_of xs k) (sym (ne_eqb (k / 64) p ne))
    ]

pub zeros_outside : (n : ℕ) (mask : List ℕ) (skip : Option ℕ) (k : ℕ) → is_outside (replicate n 0) mask skip k ≡ false
zeros_outside n mask skip k = ap (λ b. b && (not (bit_of mask k) && not (is_skipped skip k))) (zeros_bit n k)

-- the bits of the word that are open are those of the row there
pub is_outside-put : (xs mask : List ℕ) (skip : Option ℕ) (p v found k : ℕ) → p < length xs → get_or xs p 0 ≡ 0
    → ((j : ℕ) → j < 64 → word_bit found j ≡ (word_bit v j && (not (word_bit (get_or mask p 0) j) && not (is_skipped skip (64 * p + j)))))
    → is_outside (set xs p v) mask skip k ≡ (is_bit_in found p k || is_outside xs mask skip k)
is_outside-put xs mask skip p v found k lt none bits =
    elim (cases_eq (k / 64) p) [
      | inl e ↦
          let there : 64 * p + k % 64 ≡ k = omega arith in
          let same : get_or (set xs p v) p 0 ≡ v = get_or-set_same xs p v 0 lt in
          subst (λ n. is_outside (set xs p v) mask skip n ≡ word_bit found (k % 64)) there
          (open_of_word (set xs p v) mask skip p found (λ j h. bits j h ∙ ap (λ w. word_bit w j && (not (word_bit (get_or mask p 0) j) && not (is_skipped skip (64 * p + j)))) (sym same)) (k % 64) (omega arith))
          ∙ sym (or-false (word_bit found (k % 64)))
          ∙ ap (λ b. word_bit found (k % 64) || (b && (not (bit_of mask k) && not (is_skipped skip k)))) (sym (zero_bit xs p k none e))
          ∙ ap (λ b. b && word_bit found (k % 64) || is_outside xs mask skip k) (sym (eq-eqb (k / 64) p e))
      | inr ne ↦
          ap (λ w. word_bit w (k % 64) && (not (bit_of mask k) && not (is_skipped skip k))) (get_or-set_other xs p (k / 64) v 0 ne)
          ∙ ap (λ b. b && word_bit found (k % 64) || is_outside xs mask skip k) (sym (ne_eqb (k / 64) p ne))
    ]

-- ---- ones
abbrev ones_in : List ℕ → ℕ
ones_in xs = count_by (λ b. b) (bits_of xs)

ones-cons : (x : ℕ) (xs : List ℕ) → ones_in (x ∷ xs) ≡ ones_in (x ∷ []) + ones_in xs
ones-cons x xs = ap (count_by (λ b. b)) (bits-append (x ∷ []) xs) ∙ sum_by-append (λ b. cond b 1 0) (bits_of (x ∷ [])) (bits_of xs)

ones-one : (x : ℕ) → x < 2 ^ 64 → ones_in (x ∷ []) ≡ count_ones x
ones-one x small =
    let all = ones_of_row (x ∷ []) 1 refl in
    let one = ones_more (x ∷ []) 0 small in
    sym all ∙ one ∙ zero-add (count_ones x)

pub ones_of_zero : count_ones 0 ≡ 0
unfolding count_ones
ones_of_zero = refl

pub ones-put : (xs : List ℕ) (p v : ℕ) → p < length xs → get_or xs p 0 ≡ 0 → count_by (λ b. b) (bits_of (set xs p v)) ≡ count_by (λ b. b) (bits_of xs) + count_by (λ b. b) (bits_of (v ∷ []))
ones-put [] p v lt none = absurd (omega arith)
ones-put (x ∷ xs) zero v lt none =
    let after : ones_in (v ∷ xs) ≡ ones_in (v ∷ []) + ones_in xs = ones-cons v xs in
    let before : ones_in (x ∷ xs) ≡ ones_in (x ∷ []) + ones_in xs = ones-cons x xs in
    let no : ones_in (x ∷ []) ≡ 0 = ones-one x (let z : x ≡ 0 = none in omega arith) ∙ ap count_ones none ∙ ones_of_zero in
    omega (arith, after, before, no)
ones-put (x ∷ xs) (suc p) v lt none =
    let after : ones_in (x ∷ set xs p v) ≡ ones_in (x ∷ []) + ones_in (set xs p v) = ones-cons x (set xs p v) in
    let before : ones_in (x ∷ xs) ≡ ones_in (x ∷ []) + ones_in xs = ones-cons x xs in
    let rest : ones_in (set xs p v) ≡ ones_in xs + ones_in (v ∷ []) = ones-put xs p v (omega arith) none in
    omega (arith, after, before, rest)

pub ones-push : (xs : List ℕ) (v : ℕ) → count_by (λ b. b) (bits_of (xs ++ v ∷ [])) ≡ count_by (λ b. b) (bits_of xs) + count_by (λ b. b) (bits_of (v ∷ []))
ones-push xs v = ap (count_by (λ b. b)) (bits-append xs (v ∷ [])) ∙ sum_by-append (λ b. cond b 1 0) (bits_of xs) (bits_of (v ∷ []))

count_none : {X : Type 0} (xs : List X) → count_by (λ b. b) (map (λ _. false) xs) ≡ 0
count_none [] = refl
count_none (x ∷ xs) = sum_by-cons (λ b. cond b 1 0) false (map (λ _. false) xs) ∙ zero-add (count_by (λ b. b) (map (λ _. false) xs)) ∙ count_none xs

pub ones-zeros : (n : ℕ) → count_by (λ b. b) (bits_of (replicate n 0)) ≡ 0
unfolding bits_of
ones-zeros n =
    ap (count_by (λ b. b)) (range_same (bit_of (replicate n 0)) (λ _. false) 0 (64 * length (replicate n 0)) (λ k low high. zeros_bit n k))
    ∙ count_none (range_with_len 0 (64 * length (replicate n 0)))

-- ---- products
abbrev product_of : List ℕ → List ℕ → Bool
product_of xs ys = odd_sum (zip2 ◌&&◌ (bits_of xs) (bits_of ys))

product-cons : (x y : ℕ) (xs ys : List ℕ) → product_of (x ∷ xs) (y ∷ ys) ≡ differ (product_of (x ∷ []) (y ∷ [])) (product_of xs ys)
product-cons x y xs ys =
    let long : length (bits_of (x ∷ [])) ≡ length (bits_of (y ∷ [])) = length-bits (x ∷ []) ∙ sym (length-bits (y ∷ [])) in
    ap (λ bs. odd_sum (zip2 ◌&&◌ bs (bits_of (y ∷ ys)))) (bits-append (x ∷ []) xs)
    ∙ ap (λ bs. odd_sum (zip2 ◌&&◌ (bits_of (x ∷ []) ++ bits_of xs) bs)) (bits-append (y ∷ []) ys)
    ∙ ap odd_sum (zip2-append ◌&&◌ (bits_of (x ∷ [])) (bits_of xs) (bits_of (y ∷ [])) (bits_of ys) long)
    ∙ parity-append (zip2 ◌&&◌ (bits_of (x ∷ [])) (bits_of (y ∷ []))) (zip2 ◌&&◌ (bits_of xs) (bits_of ys))

product-one : (x y : ℕ) → product_of (x ∷ []) (y ∷ []) ≡ parity_of (bit_and x y)
product-one x y = sym (products_of_rows (x ∷ []) (y ∷ []) 1 refl refl) ∙ products_word (x ∷ []) (y ∷ []) 0

no_product : (x y : ℕ) → x ≡ 0 → product_of (x ∷ []) (y ∷ []) ≡ false
no_product x y e = product-one x y ∙ ap (λ w. parity_of (bit_and w y)) e ∙ ap parity_of (and_zero_l y) ∙ parity_of-zero

pub product-put : (xs ys : List ℕ) (p v : ℕ) → p < length xs → length xs ≡ length ys → get_or xs p 0 ≡ 0
    → odd_sum (zip2 ◌&&◌ (bits_of (set xs p v)) (bits_of ys)) ≡ differ (odd_sum (zip2 ◌&&◌ (bits_of xs) (bits_of ys))) (parity_of (bit_and v (get_or ys p 0)))
product-put [] ys p v lt alike none = absurd (omega arith)
product-put (x ∷ xs) [] p v lt alike none = absurd (omega arith)
product-put (x ∷ xs) (y ∷ ys) zero v lt alike none =
    product-cons v y xs ys ∙ ap (λ b. differ b (product_of xs ys)) (product-one v y) ∙ differ_turned (parity_of (bit_and v y)) (product_of xs ys)
    ∙ ap (λ b. differ b (parity_of (bit_and v y))) (sym (product-cons x y xs ys ∙ ap (λ b. differ b (product_of xs ys)) (no_product x y none)))
product-put (x ∷ xs) (y ∷ ys) (suc p) v lt alike none =
    product-cons x y (set xs p v) ys ∙ ap (differ (product_of (x ∷ []) (y ∷ []))) (product-put xs ys p v (omega arith) (omega arith) none)
    ∙ sym (differ_assoc (product_of (x ∷ []) (y ∷ [])) (product_of xs ys) (parity_of (bit_and v (get_or ys p 0))))
    ∙ ap (λ b. differ b (parity_of (bit_and v (get_or ys p 0)))) (sym (product-cons x y xs ys))

pub product-zeros : (n : ℕ) (ys : List ℕ) → n ≡ length ys → odd_sum (zip2 ◌&&◌ (bits_of (replicate n 0)) (bits_of ys)) ≡ false
product-zeros n ys alike =
    let long : n ≡ length (replicate n 0) = sym (length-replicate n 0) in
    sym (products_of_rows (replicate n 0) ys n long (sym long ∙ alike))
    ∙ ap odd_sum (range_same (λ k. bit_of (replicate n 0) k && bit_of ys k) (λ _. false) 0 (64 * n) (λ k low high. ap (λ b. b && bit_of ys k) (zeros_bit n k)))
    ∙ parity-none (range_with_len 0 (64 * n))

-- ---- zeros after words
pub ones-padded : (n : ℕ) (xs : List ℕ) → count_by (λ b. b) (bits_of (padded n xs)) ≡ count_by (λ b. b) (bits_of xs)
ones-padded n xs =
    let m : ℕ = n - length xs in
    let all : ones_in (xs ++ replicate m 0) ≡ ones_in xs + ones_in (replicate m 0) =
    ap (count_by (λ b. b)) (bits-append xs (replicate m 0)) ∙ sum_by-append (λ b. cond b 1 0) (bits_of xs) (bits_of (replicate m 0)) in
    let none : ones_in (replicate m 0) ≡ 0 = ones-zeros m in
    omega (arith, all, none)

pub product-padded : (n : ℕ) (xs ys : List ℕ) → length xs ≤ n → length (padded n xs) ≡ length ys
    → odd_sum (zip2 ◌&&◌ (bits_of (padded n xs)) (bits_of ys)) ≡ odd_sum (zip2 ◌&&◌ (bits_of xs) (bits_of (take (length xs) ys)))
product-padded n xs ys room alike =
    let m : ℕ = n - length xs in
    let zs : List ℕ = replicate m 0 in
    let rest : m ≡ length (drop (length xs) ys) = omega (arith, length-drop (length xs) ys, length-append xs zs, length-replicate {A = ℕ} m 0) in
    sym (products_in_two (length xs) (padded n xs) ys alike)
    ∙ ap (λ l. differ (odd_sum (zip2 ◌&&◌ (bits_of l) (bits_of (take (length xs) ys)))) (odd_sum (zip2 ◌&&◌ (bits_of (drop (length xs) (padded n xs))) (bits_of (drop (length xs) ys))))) (take-append_seam xs zs)
    ∙ ap (λ l. differ (odd_sum (zip2 ◌&&◌ (bits_of xs) (bits_of (take (length xs) ys)))) (odd_sum (zip2 ◌&&◌ (bits_of l) (bits_of (drop (length xs) ys))))) (drop-append_seam xs zs)
    ∙ ap (differ (odd_sum (zip2 ◌&&◌ (bits_of xs) (bits_of (take (length xs) ys))))) (product-zeros m (drop (length xs) ys) rest)
    ∙ differ_false (odd_sum (zip2 ◌&&◌ (bits_of xs) (bits_of (take (length xs) ys))))
