-- Bits of words and of packed rows.
use Rattle.std.proofs.Common.{◌≡◌, ℕ, ◌+◌, ◌-◌, ◌*◌, ◌/◌, ◌%◌, ◌^◌, ◌<◌, ◌≤◌, zero, suc, Bool, true, false, cond, not, ◌&&◌, eqb, List, [], ◌∷◌, ◌++◌, map, take, drop, length, get_or, set, Option, refl, sym, ap, ◌∙◌, subst, count_by, w64, arith, min, inl, inr}
use mathlib.Core.Bool.{beq}
use Rattle.std.specs.Int.{bit_at, bit_not, trailing_zeros}
use Rattle.std.specs.Slice.Scan.{HoldsNowhere, IsFirstPlace}
use Rattle.std.specs.Int.RustNames.{count_ones, bit_xor}
use Rattle.std.specs.Prelude.{bit_and}
use Rattle.std.specs.List.{range_with_len}
use Rattle.std.specs.Simd.Lanes.{zip2, mask_l}
use Rattle.std.proofs.lemmas.Nat.Bits.{bit_at_xor, bit_at_and, bit_at-lt, bit_at-zero, bit_at_not, bit_at_clear_same, bit_at_clear_other, bit_at-trailing_zeros, bit_at-pow_same, bit_at-pow_other, same_from_bits_below}
use Rattle.std.proofs.lemmas.Simd.{zip2-map, get_or-zip2, ones-mask_l, bit_mask_l, mask_l-lt}
use Rattle.std.proofs.lemmas.List.Sums.{sum_by-cons, sum_by-append}
use Rattle.std.proofs.lemmas.List.FromFn.{get_or-map-range_with_len, length-map-range_with_len}
use Rattle.std.proofs.lemmas.List.{length-append, length-take, take-append-drop, map-append, ext_get_or, get_or-append-add, get_or-set_same, get_or-set_other}
use Rattle.std.proofs.Math.ListN.{length-set, get_or-append, get_or-eq_default}
use Rattle.std.proofs.Math.Nat.{mod-eq_of_lt}
use Rattle.std.proofs.Math.Pow.{pow-lt}
use Rattle.std.proofs.lemmas.Bool.{eq-eqb, ne_eqb, cases_eq, cases_lt}
use Rattle.cx_base.specs.Literals.{differ}
use Rattle.cx_base.proofs.Differences.{differ_assoc, differ_turned}
use Rattle.cx_base.proofs.ParityLaws.{differ_false, differ_swap}
use Rattle.cx_base.specs.Parity.{odd_sum}
use Rattle.gf2_rows.specs.Bits.{word_bit, bit_of, bits_of, is_skipped, is_outside}

-- ---- digits
-- what holds of 0 and of 1
digit_by : (P : ℕ → Type 0) → P 0 → P 1 → (m : ℕ) → m < 2 → P m
digit_by P none one zero lt = none
digit_by P none one (suc zero) lt = one
digit_by P none one (suc (suc m)) lt = absurd (omega arith)

digit_xor : (m n : ℕ) → m < 2 → n < 2 → eqb ((m + n) % 2) 1 ≡ differ (eqb m 1) (eqb n 1)
digit_xor m n p q =
    digit_by (λ m. eqb ((m + n) % 2) 1 ≡ differ (eqb m 1) (eqb n 1)) (digit_by (λ n. eqb ((0 + n) % 2) 1 ≡ eqb n 1) refl refl n q)
    (digit_by (λ n. eqb ((1 + n) % 2) 1 ≡ not (eqb n 1)) refl refl n q) m p

digit_and : (m n : ℕ) → m < 2 → n < 2 → eqb (min m n) 1 ≡ (eqb m 1 && eqb n 1)
digit_and m n p q =
    digit_by (λ m. eqb (min m n) 1 ≡ (eqb m 1 && eqb n 1)) (digit_by (λ n. eqb (min 0 n) 1 ≡ false) refl refl n q)
    (digit_by (λ n. eqb (min 1 n) 1 ≡ eqb n 1) refl refl n q) m p

digit_is : (m : ℕ) → m < 2 → cond (eqb m 1) 1 0 ≡ m
digit_is m p = digit_by (λ m. cond (eqb m 1) 1 0 ≡ m) refl refl m p

pub word_bit-differ : (a b i : ℕ) → word_bit (bit_xor a b) i ≡ differ (word_bit a i) (word_bit b i)
word_bit-differ a b i = ap (λ d. eqb d 1) (bit_at_xor a b i) ∙ digit_xor _ _ (bit_at-lt a i) (bit_at-lt b i)

pub word_bit-and : (a b i : ℕ) → word_bit (bit_and a b) i ≡ (word_bit a i && word_bit b i)
word_bit-and a b i = ap (λ d. eqb d 1) (bit_at_and a b i) ∙ digit_and _ _ (bit_at-lt a i) (bit_at-lt b i)

-- ---- lists over a range of positions
pub range_same : {X : Type 0} (f g : ℕ → X) (a n : ℕ) → ((k : ℕ) → a ≤ k → k < a + n → f k ≡ g k) → map f (range_with_len a n) ≡ map g (range_with_len a n)
range_same f g a zero h = refl
range_same f g a (suc n) h =
    ap (λ x. x ∷ map f (range_with_len (a + 1) n)) (h a (omega arith) (omega arith))
    ∙ ap (λ xs. g a ∷ xs) (range_same f g (a + 1) n (λ k low high. h k (omega arith) (omega arith)))

pub range_split : (a n m : ℕ) → range_with_len a (n + m) ≡ range_with_len a n ++ range_with_len (a + n) m
range_split a zero m = let e : a + 0 ≡ a = omega arith in let z : 0 + m ≡ m = omega arith in rw (z, e) refl
range_split a (suc n) m =
    let e : suc n + m ≡ suc (n + m) = omega arith in
    let b : a + suc n ≡ a + 1 + n = omega arith in
    rw (e, b) (ap (λ xs. a ∷ xs) (range_split (a + 1) n m))

pub range_shift : {X : Type 0} (f : ℕ → X) (a b n : ℕ) → map f (range_with_len (a + b) n) ≡ map (λ j. f (a + j)) (range_with_len b n)
range_shift f a b zero = refl
range_shift f a b (suc n) =
    let e : a + b + 1 ≡ a + (b + 1) = omega arith in
    rw e (ap (λ xs. f (a + b) ∷ xs) (range_shift f a (b + 1) n))

-- ---- sums modulo two

pub parity-append : (xs ys : List Bool) → odd_sum (xs ++ ys) ≡ differ (odd_sum xs) (odd_sum ys)
parity-append [] ys = refl
parity-append (x ∷ xs) ys = ap (differ x) (parity-append xs ys) ∙ sym (differ_assoc x (odd_sum xs) (odd_sum ys))

pub parity-differ : {X : Type 0} (f g : X → Bool) (xs : List X) → odd_sum (map (λ x. differ (f x) (g x)) xs) ≡ differ (odd_sum (map f xs)) (odd_sum (map g xs))
parity-differ f g [] = refl
parity-differ f g (x ∷ xs) = ap (differ (differ (f x) (g x))) (parity-differ f g xs) ∙ differ_swap (f x) (g x) (odd_sum (map f xs)) (odd_sum (map g xs))

pub parity-none : {X : Type 0} (xs : List X) → odd_sum (map (λ _. false) xs) ≡ false
parity-none [] = refl
parity-none (x ∷ xs) = parity-none xs

pub odd-suc : (n : ℕ) → eqb ((1 + n) % 2) 1 ≡ not (eqb (n % 2) 1)
odd-suc n =
    let e : (1 + n) % 2 ≡ (1 + n % 2) % 2 = omega arith in
    ap (λ d. eqb d 1) e ∙ digit_xor 1 (n % 2) (omega arith) (omega arith)

pub odd-more : (b : Bool) (n : ℕ) → differ b (eqb (n % 2) 1) ≡ eqb ((cond b 1 0 + n) % 2) 1
odd-more true n = sym (odd-suc n)
odd-more false n = let e : 0 + n ≡ n = omega arith in rw e refl

-- the sum modulo two is whether the number of ones is odd
pub parity-count : {X : Type 0} (p : X → Bool) (xs : List X) → odd_sum (map p xs) ≡ eqb (count_by p xs % 2) 1
parity-count p [] = refl
parity-count p (x ∷ xs) =
    ap (differ (p x)) (parity-count p xs) ∙ odd-more (p x) (count_by p xs)
    ∙ ap (λ n. eqb (n % 2) 1) (sym (sum_by-cons (λ y. cond (p y) 1 0) x xs))

pub count_of_map : {X : Type 0} (p : X → Bool) (xs : List X) → count_by (λ b. b) (map p xs) ≡ count_by p xs
count_of_map p [] = refl
count_of_map p (x ∷ xs) =
    sum_by-cons (λ b. cond b 1 0) (p x) (map p xs) ∙ ap (λ n. cond (p x) 1 0 + n) (count_of_map p xs)
    ∙ sym (sum_by-cons (λ y. cond (p y) 1 0) x xs)

-- ---- words
-- a word is made of its bits
word_of_bits : (w : ℕ) → w < 2 ^ 64 → mask_l (map (word_bit w) (range_with_len 0 64)) ≡ w
word_of_bits w small =
    let ms : List Bool = map (word_bit w) (range_with_len 0 64) in
    let long : length ms ≡ 64 = length-map-range_with_len (word_bit w) 0 64 in
    let below : mask_l ms < 2 ^ 64 = subst (λ n. mask_l ms < 2 ^ n) long (mask_l-lt ms) in
    same_from_bits_below 64 (mask_l ms) w below small
    (λ i lt. bit_mask_l ms i ∙ ap (λ b. cond b 1 0) (get_or-map-range_with_len (word_bit w) 0 64 i i false lt (omega arith))
    ∙ digit_is (bit_at w i) (bit_at-lt w i))

pub ones_of_word : (w : ℕ) → w < 2 ^ 64 → count_ones w ≡ count_by (word_bit w) (range_with_len 0 64)
ones_of_word w small = ap count_ones (sym (word_of_bits w small)) ∙ ones-mask_l (word_bit w) (range_with_len 0 64)

pub parity_of_word : (w : ℕ) → w < 2 ^ 64 → odd_sum (map (word_bit w) (range_with_len 0 64)) ≡ eqb (count_ones w % 2) 1
parity_of_word w small = parity-count (word_bit w) (range_with_len 0 64) ∙ ap (λ n. eqb (n % 2) 1) (sym (ones_of_word w small))

pub bit_of_word : (words : List ℕ) (i j : ℕ) → j < 64 → bit_of words (64 * i + j) ≡ word_bit (get_or words i 0) j
bit_of_word words i j lt =
    let q : (64 * i + j) / 64 ≡ i = omega arith in
    let r : (64 * i + j) % 64 ≡ j = omega arith in
    rw (q, r) refl

-- one more word
pub range_word : (p : ℕ → Bool) (i : ℕ) → map p (range_with_len 0 (64 * (i + 1))) ≡ map p (range_with_len 0 (64 * i)) ++ map (λ j. p (64 * i + j)) (range_with_len 0 64)
range_word p i =
    let e : 64 * (i + 1) ≡ 64 * i + 64 = omega arith in
    let z : 0 + 64 * i ≡ 64 * i + 0 = omega arith in
    ap (λ n. map p (range_with_len 0 n)) e ∙ ap (map p) (range_split 0 (64 * i) 64) ∙ map-append p _ _
    ∙ ap (λ n. map p (range_with_len 0 (64 * i)) ++ map p (range_with_len n 64)) z
    ∙ ap (λ xs. map p (range_with_len 0 (64 * i)) ++ xs) (range_shift p (64 * i) 0 64)

pub ones_more : (words : List ℕ) (i : ℕ) → get_or words i 0 < 2 ^ 64
    → count_by (λ b. b) (map (bit_of words) (range_with_len 0 (64 * (i + 1)))) ≡ count_by (λ b. b) (map (bit_of words) (range_with_len 0 (64 * i))) + count_ones (get_or words i 0)
ones_more words i small =
    ap (count_by (λ b. b)) (range_word (bit_of words) i) ∙ sum_by-append (λ b. cond b 1 0) (map (bit_of words) (range_with_len 0 (64 * i))) (map (λ j. bit_of words (64 * i + j)) (range_with_len 0 64))
    ∙ ap (λ n. count_by (λ b. b) (map (bit_of words) (range_with_len 0 (64 * i))) + n)
    (count_of_map (λ j. bit_of words (64 * i + j)) (range_with_len 0 64)
    ∙ sym (count_of_map (λ j. bit_of words (64 * i + j)) (range_with_len 0 64))
    ∙ ap (count_by (λ b. b)) (range_same (λ j. bit_of words (64 * i + j)) (word_bit (get_or words i 0)) 0 64 (λ j low high. bit_of_word words i j (omega arith)))
    ∙ count_of_map (word_bit (get_or words i 0)) (range_with_len 0 64)
    ∙ sym (ones_of_word (get_or words i 0) small))

pub ones_of_row : (words : List ℕ) (n : ℕ) → n ≡ length words → count_by (λ b. b) (map (bit_of words) (range_with_len 0 (64 * n))) ≡ count_by (λ b. b) (bits_of words)
unfolding bits_of
ones_of_row words n e = ap (λ m. count_by (λ b. b) (map (bit_of words) (range_with_len 0 (64 * m)))) e

-- the ones before a word are no more than all
pub ones_before : (words : List ℕ) (i : ℕ) → i ≤ length words → count_by (λ b. b) (map (bit_of words) (range_with_len 0 (64 * i))) ≤ count_by (λ b. b) (bits_of words)
ones_before words i within =
    let rest : ℕ = 64 * (length words - i) in
    let parts =
    ap (count_by (λ b. b)) (ap (map (bit_of words)) (range_split 0 (64 * i) rest) ∙ map-append (bit_of words) (range_with_len 0 (64 * i)) (range_with_len (0 + 64 * i) rest))
    ∙ sum_by-append (λ b. cond b 1 0) (map (bit_of words) (range_with_len 0 (64 * i))) (map (bit_of words) (range_with_len (0 + 64 * i) rest)) in
    let long : 64 * i + rest ≡ 64 * length words = omega arith in
    let all = ap (λ n. count_by (λ b. b) (map (bit_of words) (range_with_len 0 n))) long ∙ ones_of_row words (length words) refl in
    omega (arith, parts, all)

-- the words below n are sums, and the others are as before
abbrev pub IsAddedBelow : List ℕ → List ℕ → List ℕ → ℕ → Type 0
IsAddedBelow old other new n =
    ((k : ℕ) → k < n → get_or new k 0 ≡ bit_xor (get_or old k 0) (get_or other k 0)) × ((k : ℕ) → n ≤ k → get_or new k 0 ≡ get_or old k 0)

-- the sum of two rows, of which each word is the sum of two words
pub sum_of_rows : (new old other : List ℕ) → length new ≡ length old → length old ≡ length other
    → ((k : ℕ) → k < length old → get_or new k 0 ≡ bit_xor (get_or old k 0) (get_or other k 0))
    → bits_of new ≡ zip2 differ (bits_of old) (bits_of other)
unfolding bits_of
sum_of_rows new old other same alike each =
    ap (λ n. map (bit_of new) (range_with_len 0 (64 * n))) same
    ∙ range_same (bit_of new) (λ k. differ (bit_of old k) (bit_of other k)) 0 (64 * length old)
    (λ k low high. ap (λ w. word_bit w (k % 64)) (each (k / 64) (omega arith)) ∙ word_bit-differ _ _ (k % 64))
    ∙ sym (zip2-map differ (bit_of old) (bit_of other) (range_with_len 0 (64 * length old)))
    ∙ ap (λ n. zip2 differ (bits_of old) (map (bit_of other) (range_with_len 0 (64 * n)))) alike

-- the sum modulo two of a word's bits
unfoldable pub parity_of : ℕ → Bool
parity_of w = odd_sum (map (word_bit w) (range_with_len 0 64))

pub parity_of-differ : (s w : ℕ) → parity_of (bit_xor s w) ≡ differ (parity_of s) (parity_of w)
unfolding parity_of
parity_of-differ s w =
    ap odd_sum (range_same (word_bit (bit_xor s w)) (λ j. differ (word_bit s j) (word_bit w j)) 0 64 (λ j low high. word_bit-differ s w j))
    ∙ parity-differ (word_bit s) (word_bit w) (range_with_len 0 64)

-- the sum of the products of the first n bits
abbrev pub products_upto : List ℕ → List ℕ → ℕ → Bool
products_upto a b n = odd_sum (map (λ k. bit_of a k && bit_of b k) (range_with_len 0 n))

-- one more word
pub products_word : (a b : List ℕ) (i : ℕ)
    → products_upto a b (64 * (i + 1)) ≡ differ (products_upto a b (64 * i)) (parity_of (bit_and (get_or a i 0) (get_or b i 0)))
unfolding parity_of
products_word a b i =
    let w : ℕ = bit_and (get_or a i 0) (get_or b i 0) in
    ap odd_sum (range_word (λ k. bit_of a k && bit_of b k) i)
    ∙ parity-append (map (λ k. bit_of a k && bit_of b k) (range_with_len 0 (64 * i))) (map (λ j. bit_of a (64 * i + j) && bit_of b (64 * i + j)) (range_with_len 0 64))
    ∙ ap (λ x. differ (products_upto a b (64 * i)) (odd_sum x))
    (range_same (λ j. bit_of a (64 * i + j) && bit_of b (64 * i + j)) (word_bit w) 0 64
    (λ j low high. rw (bit_of_word a i j (omega arith), bit_of_word b i j (omega arith)) (sym (word_bit-and (get_or a i 0) (get_or b i 0) j))))

pub products_more : (a b : List ℕ) (i s : ℕ) → parity_of s ≡ products_upto a b (64 * i)
    → parity_of (bit_xor s (bit_and (get_or a i 0) (get_or b i 0))) ≡ products_upto a b (64 * (i + 1))
products_more a b i s h =
    parity_of-differ s (bit_and (get_or a i 0) (get_or b i 0)) ∙ ap (λ x. differ x (parity_of (bit_and (get_or a i 0) (get_or b i 0)))) h
    ∙ sym (products_word a b i)

pub parity_of-zero : parity_of 0 ≡ false
unfolding parity_of
parity_of-zero = refl

pub parity_of-ones : (w : ℕ) → w < 2 ^ 64 → parity_of w ≡ eqb (count_ones w % 2) 1
unfolding parity_of
parity_of-ones w small = parity_of_word w small

pub products_of_rows : (a b : List ℕ) (n : ℕ) → n ≡ length a → length a ≡ length b
    → odd_sum (map (λ k. bit_of a k && bit_of b k) (range_with_len 0 (64 * n))) ≡ odd_sum (zip2 ◌&&◌ (bits_of a) (bits_of b))
unfolding bits_of
products_of_rows a b n e alike =
    ap (λ m. odd_sum (map (λ k. bit_of a k && bit_of b k) (range_with_len 0 (64 * m)))) e
    ∙ ap odd_sum (sym (zip2-map ◌&&◌ (bit_of a) (bit_of b) (range_with_len 0 (64 * length a))))
    ∙ ap (λ m. odd_sum (zip2 ◌&&◌ (bits_of a) (map (bit_of b) (range_with_len 0 (64 * m))))) alike

-- ---- one bit
digit_not : (m : ℕ) → m < 2 → eqb (1 - m) 1 ≡ not (eqb m 1)
digit_not m p = digit_by (λ m. eqb (1 - m) 1 ≡ not (eqb m 1)) refl refl m p

pub word_bit-rest : (word masked j : ℕ) → masked < 2 ^ 64 → j < 64 → word_bit (bit_and word (bit_not w64 masked)) j ≡ (word_bit word j && not (word_bit masked j))
word_bit-rest word masked j small lt =
    word_bit-and word (bit_not w64 masked) j
    ∙ ap (λ b. word_bit word j && b) (ap (λ d. eqb d 1) (bit_at_not w64 masked j small lt) ∙ digit_not _ (bit_at-lt masked j))

pub and_more : (a b : Bool) → (a && b) ≡ (a && (b && not false))
and_more true true = refl
and_more true false = refl
and_more false b = refl

and_last : (a b : Bool) → false ≡ (a && (b && not true))
and_last true true = refl
and_last true false = refl
and_last false b = refl

-- a word whose bit k is cleared
pub word_bit-cleared : (found masked place index j : ℕ) (word : ℕ) → place / 64 ≡ index → j < 64
    → word_bit found j ≡ (word_bit word j && not (word_bit masked j))
    → word_bit (bit_and found (bit_not w64 (1 * 2 ^ (place % 64) % 2 ^ 64))) j ≡ (word_bit word j && (not (word_bit masked j) && not (eqb place (64 * index + j))))
word_bit-cleared found masked place index j word here lt e =
    elim (cases_eq j (place % 64)) [
      | inl same ↦
          let at : place ≡ 64 * index + j = omega arith in
          ap (λ d. eqb d 1) (subst (λ i. bit_at (bit_and found (bit_not w64 (1 * 2 ^ (place % 64) % 2 ^ 64))) i ≡ 0) (sym same) (bit_at_clear_same w64 found (place % 64) (omega arith)))
          ∙ and_last (word_bit word j) (not (word_bit masked j))
          ∙ ap (λ b. word_bit word j && (not (word_bit masked j) && not b)) (sym (eq-eqb place (64 * index + j) at))
      | inr other ↦
          let away : place ≡ 64 * index + j → ⊥ = λ at. other (omega arith) in
          ap (λ d. eqb d 1) (bit_at_clear_other w64 found (place % 64) (omega arith) j lt other) ∙ e
          ∙ and_more (word_bit word j) (not (word_bit masked j))
          ∙ ap (λ b. word_bit word j && (not (word_bit masked j) && not b)) (sym (ne_eqb place (64 * index + j) away))
    ]

pub not_skipped : (place index j : ℕ) → (place / 64 ≡ index → ⊥) → j < 64 → eqb place (64 * index + j) ≡ false
not_skipped place index j other lt = ne_eqb _ _ (λ at. other (omega arith))

-- the word's open bits are the row's
pub open_of_word : (row mask : List ℕ) (skip : Option ℕ) (i found : ℕ)
    → ((j : ℕ) → j < 64 → word_bit found j ≡ (word_bit (get_or row i 0) j && (not (word_bit (get_or mask i 0) j) && not (is_skipped skip (64 * i + j)))))
    → (j : ℕ) → j < 64 → is_outside row mask skip (64 * i + j) ≡ word_bit found j
open_of_word row mask skip i found bits j lt =
    ap (λ b. b && (not (bit_of mask (64 * i + j)) && not (is_skipped skip (64 * i + j)))) (bit_of_word row i j lt)
    ∙ ap (λ b. word_bit (get_or row i 0) j && (not b && not (is_skipped skip (64 * i + j)))) (bit_of_word mask i j lt)
    ∙ sym (bits j lt)

pub nothing_more : (row mask : List ℕ) (skip : Option ℕ) (from i found : ℕ)
    → ((j : ℕ) → j < 64 → word_bit found j ≡ (word_bit (get_or row i 0) j && (not (word_bit (get_or mask i 0) j) && not (is_skipped skip (64 * i + j)))))
    → found ≡ 0 → HoldsNowhere (is_outside row mask skip) from (64 * i) → HoldsNowhere (is_outside row mask skip) from (64 * (i + 1))
nothing_more row mask skip from i found bits none before k low high =
    elim (cases_lt k (64 * i)) [
      | inl lt ↦ before k low lt
      | inr ge ↦
          let at : 64 * i + (k - 64 * i) ≡ k = omega arith in
          subst (λ n. is_outside row mask skip n ≡ false) at
          (open_of_word row mask skip i found bits (k - 64 * i) (omega arith) ∙ rw (none, bit_at-zero (k - 64 * i)) refl)
    ]

pub first_here : (row mask : List ℕ) (skip : Option ℕ) (from to i found t : ℕ)
    → ((j : ℕ) → j < 64 → word_bit found j ≡ (word_bit (get_or row i 0) j && (not (word_bit (get_or mask i 0) j) && not (is_skipped skip (64 * i + j)))))
    → t ≡ trailing_zeros w64 found → 0 < found → found < 2 ^ 64 → from ≤ 64 * i → i < to → HoldsNowhere (is_outside row mask skip) from (64 * i)
    → (64 * i + t < 64 * to) × IsFirstPlace (is_outside row mask skip) from (64 * to) (64 * i + t)
first_here row mask skip from to i found t bits place some small start within before =
    let lowest = bit_at-trailing_zeros w64 found some small in
    let lt : t < 64 = omega (arith, lowest.0) in
    let here : bit_at found t ≡ 1 = rw place lowest.1 in (
      omega arith,
      record {
        low = omega arith;
        high = omega arith;
        before = λ k low high.
            elim (cases_lt k (64 * i)) [
              | inl lt' ↦ before k low lt'
              | inr ge ↦
                  let at : 64 * i + (k - 64 * i) ≡ k = omega arith in
                  subst (λ n. is_outside row mask skip n ≡ false) at
                  (open_of_word row mask skip i found bits (k - 64 * i) (omega arith)
                  ∙ ap (λ d. eqb d 1) (lowest.2 (k - 64 * i) (omega arith)))
            ];
        hit = λ _. open_of_word row mask skip i found bits t lt ∙ ap (λ d. eqb d 1) here;
      },
    )

-- ---- a bit turned over
one_bit : (k : ℕ) → k < 64 → 1 * 2 ^ k % 2 ^ 64 ≡ 2 ^ k
one_bit k lt = let e : 1 * 2 ^ k ≡ 2 ^ k = omega arith in rw e (mod-eq_of_lt (pow-lt lt))

pub length-bits : (row : List ℕ) → length (bits_of row) ≡ 64 * length row
unfolding bits_of
length-bits row = length-map-range_with_len (bit_of row) 0 (64 * length row)

pub get_or-bits : (row : List ℕ) (i : ℕ) → i < 64 * length row → get_or (bits_of row) i false ≡ bit_of row i
unfolding bits_of
get_or-bits row i lt = get_or-map-range_with_len (bit_of row) 0 (64 * length row) i i false lt (omega arith)

-- past the end no bit is set
pub bit_past_end : (row : List ℕ) (i : ℕ) → 64 * length row ≤ i → bit_of row i ≡ false
bit_past_end row i ge =
    let out : length row ≤ i / 64 = omega arith in
    ap (λ w. word_bit w (i % 64)) (get_or-eq_default row 0 out) ∙ rw (bit_at-zero (i % 64)) refl

-- each bit of a sum of rows
pub bit_of_sum : (new a b : List ℕ) → length new ≡ length a → length a ≡ length b → bits_of new ≡ zip2 differ (bits_of a) (bits_of b)
    → (k : ℕ) → bit_of new k ≡ differ (bit_of a k) (bit_of b k)
bit_of_sum new a b same alike e k =
    elim (cases_lt k (64 * length a)) [
      | inl lt ↦
          sym (get_or-bits new k (omega arith)) ∙ ap (λ bs. get_or bs k false) e
          ∙ get_or-zip2 differ (bits_of a) (bits_of b) k false false false (omega (arith, length-bits a)) (omega (arith, length-bits b))
          ∙ ap (λ x. differ x (get_or (bits_of b) k false)) (get_or-bits a k lt) ∙ ap (differ (bit_of a k)) (get_or-bits b k (omega arith))
      | inr ge ↦ bit_past_end new k (omega arith) ∙ sym (ap (λ x. differ x (bit_of b k)) (bit_past_end a k ge) ∙ bit_past_end b k (omega arith))
    ]

module _ (words : List ℕ) (k : ℕ) (within : k < 64 * length words) where
  turned : List ℕ
  turned = set words (k / 64) (bit_xor (get_or words (k / 64) 0) (2 ^ (k % 64)))

  here : bit_of turned k ≡ not (bit_of words k)
  unfolding turned
  here =
      let in' : k / 64 < length words = omega arith in
      rw get_or-set_same
      (word_bit-differ (get_or words (k / 64) 0) (2 ^ (k % 64)) (k % 64) ∙ ap (λ d. differ (bit_of words k) (eqb d 1)) (bit_at-pow_same (k % 64)) ∙ differ_turned (bit_of words k) true)

  elsewhere : (i : ℕ) → (i ≡ k → ⊥) → bit_of turned i ≡ bit_of words i
  unfolding turned
  elsewhere i other =
      elim (cases_eq (i / 64) (k / 64)) [
        | inl same ↦
            let in' : k / 64 < length words = omega arith in
            let apart : i % 64 ≡ k % 64 → ⊥ = λ e. other (omega arith) in
            rw (same, get_or-set_same)
            (word_bit-differ (get_or words (k / 64) 0) (2 ^ (k % 64)) (i % 64)
            ∙ ap (λ d. differ (word_bit (get_or words (k / 64) 0) (i % 64)) (eqb d 1)) (bit_at-pow_other (k % 64) (i % 64) apart)
            ∙ differ_false (word_bit (get_or words (k / 64) 0) (i % 64)))
        | inr apart ↦ ap (λ w. word_bit w (i % 64)) (get_or-set_other words (k / 64) (i / 64) (bit_xor (get_or words (k / 64) 0) (2 ^ (k % 64))) 0 apart)
      ]

  same_length : length turned ≡ length words
  unfolding turned
  same_length = length-set words (k / 64) (bit_xor (get_or words (k / 64) 0) (2 ^ (k % 64)))

  turned_bits : bits_of turned ≡ set (bits_of words) k (not (bit_of words k))
  turned_bits =
      let long : length (bits_of turned) ≡ 64 * length words = length-bits turned ∙ ap (λ n. 64 * n) same_length in
      let old : length (bits_of words) ≡ 64 * length words = length-bits words in
      ext_get_or false (bits_of turned) (set (bits_of words) k (not (bit_of words k)))
      (long ∙ sym old ∙ sym (length-set (bits_of words) k (not (bit_of words k))))
      (λ i lt.
      get_or-bits turned i (omega (arith, same_length))
      ∙ elim (cases_eq i k) [
        | inl same ↦ rw same (here ∙ sym (get_or-set_same (bits_of words) k (not (bit_of words k)) false (omega arith)))
        | inr other ↦
            elsewhere i other ∙ sym (get_or-bits words i (omega arith))
            ∙ sym (get_or-set_other (bits_of words) k i (not (bit_of words k)) false other)
      ])

  pub flipped : bits_of (set words (k / 64) (bit_xor (get_or words (k / 64) 0) (1 * 2 ^ (k % 64) % 2 ^ 64))) ≡ set (bits_of words) k (not (bit_of words k))
  unfolding turned
  flipped = rw (one_bit (k % 64) (omega arith)) turned_bits

-- ---- a bit put
pub differ-beq : (a b : Bool) → not (beq a b) ≡ differ a b
differ-beq true true = refl
differ-beq true false = refl
differ-beq false true = refl
differ-beq false false = refl

pub not_same : (a b : Bool) → not (beq a b) ≡ true → not a ≡ b
not_same true true h = cc
not_same true false h = refl
not_same false true h = refl
not_same false false h = cc

pub bits_turned : (old new : List ℕ) (k : ℕ) (b : Bool) → length new ≡ length old → k < 64 * length old → bits_of new ≡ set (bits_of old) k b
    → (j : ℕ) → bit_of new j ≡ cond (eqb j k) b (bit_of old j)
bits_turned old new k b same within e j =
    elim (cases_lt j (64 * length old)) [
      | inr ge ↦
          bit_past_end new j (omega arith)
          ∙ sym (ap (λ x. cond x b (bit_of old j)) (ne_eqb j k (λ q. omega arith)) ∙ bit_past_end old j ge)
      | inl lt ↦
          sym (get_or-bits new j (omega arith)) ∙ ap (λ bs. get_or bs j false) e
          ∙ elim (cases_eq j k) [
            | inl q ↦
                ap (λ i. get_or (set (bits_of old) k b) i false) q ∙ get_or-set_same (bits_of old) k b false (omega (arith, length-bits old))
                ∙ sym (ap (λ x. cond x b (bit_of old j)) (eq-eqb j k q))
            | inr ne ↦
                get_or-set_other (bits_of old) k j b false ne ∙ get_or-bits old j lt ∙ sym (ap (λ x. cond x b (bit_of old j)) (ne_eqb j k ne))
          ]
    ]

-- ---- rows one after another
bits_in_front : (xs ys : List ℕ) (k : ℕ) → k < 64 * length xs → bit_of (xs ++ ys) k ≡ bit_of xs k
bits_in_front xs ys k lt = ap (λ w. word_bit w (k % 64)) (get_or-append xs ys 0 (k / 64) (omega arith))

bits_behind : (xs ys : List ℕ) (j : ℕ) → bit_of (xs ++ ys) (64 * length xs + j) ≡ bit_of ys j
bits_behind xs ys j =
    let q : (64 * length xs + j) / 64 ≡ length xs + j / 64 = omega arith in
    let r : (64 * length xs + j) % 64 ≡ j % 64 = omega arith in
    rw (q, r) (ap (λ w. word_bit w (j % 64)) (get_or-append-add xs ys (j / 64) 0))

pub bits-append : (xs ys : List ℕ) → bits_of (xs ++ ys) ≡ bits_of xs ++ bits_of ys
unfolding bits_of
bits-append xs ys =
    let n : ℕ = 64 * length xs in
    let m : ℕ = 64 * length ys in
    let e : 64 * length (xs ++ ys) ≡ n + m = omega (arith, length-append xs ys) in
    let z : 0 + n ≡ n + 0 = omega arith in
    ap (λ k. map (bit_of (xs ++ ys)) (range_with_len 0 k)) e ∙ ap (map (bit_of (xs ++ ys))) (range_split 0 n m) ∙ map-append (bit_of (xs ++ ys)) (range_with_len 0 n) (range_with_len (0 + n) m)
    ∙ ap (λ bs. bs ++ map (bit_of (xs ++ ys)) (range_with_len (0 + n) m)) (range_same (bit_of (xs ++ ys)) (bit_of xs) 0 n (λ k low high. bits_in_front xs ys k (omega arith)))
    ∙ ap (λ k. bits_of xs ++ map (bit_of (xs ++ ys)) (range_with_len k m)) z
    ∙ ap (λ bs. bits_of xs ++ bs) (range_shift (bit_of (xs ++ ys)) n 0 m ∙ range_same (λ j. bit_of (xs ++ ys) (n + j)) (bit_of ys) 0 m (λ j low high. bits_behind xs ys j))

pub zip2-append : {A B C : Type 0} (f : A → B → C) (ps qs : List A) (xs ys : List B) → length ps ≡ length xs → zip2 f (ps ++ qs) (xs ++ ys) ≡ zip2 f ps xs ++ zip2 f qs ys
zip2-append f [] qs [] ys alike = refl
zip2-append f [] qs (x ∷ xs) ys alike = absurd (omega arith)
zip2-append f (p ∷ ps) qs [] ys alike = absurd (omega arith)
zip2-append f (p ∷ ps) qs (x ∷ xs) ys alike = ap (λ zs. f p x ∷ zs) (zip2-append f ps qs xs ys (omega arith))

-- positions of two rows taken together, of the first n words and of the others
bits_in_two : (f : Bool → Bool → Bool) (n : ℕ) (xs ys : List ℕ) → length xs ≡ length ys
    → zip2 f (bits_of xs) (bits_of ys) ≡ zip2 f (bits_of (take n xs)) (bits_of (take n ys)) ++ zip2 f (bits_of (drop n xs)) (bits_of (drop n ys))
bits_in_two f n xs ys alike =
    let long : length (bits_of (take n xs)) ≡ length (bits_of (take n ys)) = omega (arith, length-bits (take n xs), length-bits (take n ys), length-take n xs, length-take n ys) in
    ap (λ zs. zip2 f (bits_of zs) (bits_of ys)) (sym (take-append-drop n xs)) ∙ ap (λ zs. zip2 f (bits_of (take n xs ++ drop n xs)) (bits_of zs)) (sym (take-append-drop n ys))
    ∙ ap (λ bs. zip2 f bs (bits_of (take n ys ++ drop n ys))) (bits-append (take n xs) (drop n xs))
    ∙ ap (zip2 f (bits_of (take n xs) ++ bits_of (drop n xs))) (bits-append (take n ys) (drop n ys))
    ∙ zip2-append f (bits_of (take n xs)) (bits_of (drop n xs)) (bits_of (take n ys)) (bits_of (drop n ys)) long

pub sums_in_two : (n : ℕ) (row other front back : List ℕ) → length row ≡ length other
    → bits_of front ≡ zip2 differ (bits_of (take n row)) (bits_of (take n other)) → bits_of back ≡ zip2 differ (bits_of (drop n row)) (bits_of (drop n other))
    → bits_of (front ++ back) ≡ zip2 differ (bits_of row) (bits_of other)
sums_in_two n row other front back alike first rest =
    bits-append front back ∙ ap (λ bs. bs ++ bits_of back) first ∙ ap (λ bs. zip2 differ (bits_of (take n row)) (bits_of (take n other)) ++ bs) rest
    ∙ sym (bits_in_two differ n row other alike)

pub products_in_two : (n : ℕ) (a b : List ℕ) → length a ≡ length b
    → differ (odd_sum (zip2 ◌&&◌ (bits_of (take n a)) (bits_of (take n b)))) (odd_sum (zip2 ◌&&◌ (bits_of (drop n a)) (bits_of (drop n b)))) ≡ odd_sum (zip2 ◌&&◌ (bits_of a) (bits_of b))
products_in_two n a b alike =
    sym (parity-append (zip2 ◌&&◌ (bits_of (take n a)) (bits_of (take n b))) (zip2 ◌&&◌ (bits_of (drop n a)) (bits_of (drop n b)))) ∙ ap odd_sum (sym (bits_in_two ◌&&◌ n a b alike))

pub ones_in_two : (n : ℕ) (row : List ℕ) → count_by (λ b. b) (bits_of (take n row)) + count_by (λ b. b) (bits_of (drop n row)) ≡ count_by (λ b. b) (bits_of row)
ones_in_two n row =
    sym (sum_by-append (λ b. cond b 1 0) (bits_of (take n row)) (bits_of (drop n row)))
    ∙ ap (count_by (λ b. b)) (sym (bits-append (take n row) (drop n row)) ∙ ap bits_of (take-append-drop n row))
