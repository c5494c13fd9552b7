-- Marks as bits of words.
use Rattle.std.proofs.Common.{◌≡◌, ◌≢◌, refl, sym, ap, ◌∙◌, subst, ℕ, zero, suc, ◌+◌, ◌*◌, ◌/◌, ◌%◌, ◌^◌, ◌-◌, ◌<◌, ◌≤◌, Bool, true, false, ◌&&◌, eqb, List, length, get_or, set, min, w64, inl, inr, arith, eqb-true, true≢false}
use Rattle.std.specs.Int.{bit_at, trailing_zeros}
use Rattle.std.specs.Prelude.{bit_and, bit_or}
use Rattle.std.specs.Slice.Scan.{HoldsNowhere, IsFirstPlace}
use Rattle.std.proofs.lemmas.Bool.{cases_eq, cases_lt, and_parts}
use Rattle.std.proofs.lemmas.List.{get_or-set_same, get_or-set_other}
use Rattle.std.proofs.lemmas.Nat.{and_le_l}
use Rattle.std.proofs.lemmas.Nat.Bits.{bit_at_set_same, bit_at_set_other, bit_at-zero, bit_at-lt, bit_at_and, bit_at-suc, bit_at-trailing_zeros}
use Rattle.std.proofs.Math.ListN.{get_or-eq_default}
use Rattle.cx_base.specs.Codes.{below_two}
use Rattle.cx_base.specs.declared.assumed.TheConstants.{POSITIVE}
use Rattle.cx_base.specs.Assumed.{word_bit, has_bit, has_pair, are_both_marked, IsFirstBoth, IsNoneBoth}

-- ---- one mark more

abbrev pub with_bit : List ℕ → ℕ → List ℕ
with_bit words c = set words (c / 64) (bit_or (get_or words (c / 64) 0) (1 * 2 ^ (c % 64) % 2 ^ 64))

pub bit_here : (words : List ℕ) (c : ℕ) → c / 64 < length words → has_bit (with_bit words c) c ≡ true
bit_here words c inside = rw (get_or-set_same words (c / 64) (bit_or (get_or words (c / 64) 0) (1 * 2 ^ (c % 64) % 2 ^ 64)) 0 inside)
    (ap (λ d. eqb d 1) (bit_at_set_same w64 (get_or words (c / 64) 0) (c % 64) (omega arith)))

pub bit_elsewhere : (words : List ℕ) (c d : ℕ) → c / 64 < length words → d ≢ c → has_bit (with_bit words c) d ≡ has_bit words d
bit_elsewhere words c d inside ne =
    let new : ℕ = bit_or (get_or words (c / 64) 0) (1 * 2 ^ (c % 64) % 2 ^ 64) in
    elim (cases_eq (d / 64) (c / 64)) [
      | inr away ↦ ap (λ w. word_bit w (d % 64)) (get_or-set_other words (c / 64) (d / 64) new 0 away)
      | inl same ↦
          let other : d % 64 ≢ c % 64 = λ e. ne (omega arith) in
          ap (λ p. word_bit (get_or (set words (c / 64) new) p 0) (d % 64)) same
          ∙ ap (λ w. word_bit w (d % 64)) (get_or-set_same words (c / 64) new 0 inside)
          ∙ ap (λ b. eqb b 1) (bit_at_set_other w64 (get_or words (c / 64) 0) (c % 64) (omega arith) (d % 64) other)
          ∙ ap (λ p. word_bit (get_or words p 0) (d % 64)) (sym same)
    ]

-- ---- the pairs of a word

all_below : (ℕ → Bool) → ℕ → Bool
all_below p zero = true
all_below p (suc n) = p n && all_below p n

each_below : (p : ℕ → Bool) (n k : ℕ) → all_below p n ≡ true → k < n → p k ≡ true
unfolding all_below
each_below p zero k h lt = absurd (omega arith)
each_below p (suc n) k h lt = elim (cases_eq k n) [
  | inl e ↦ ap p e ∙ (and_parts (p n) (all_below p n) h).0
  | inr ne ↦ each_below p n k (and_parts (p n) (all_below p n) h).1 (omega arith)
]

positive_bit : (i : ℕ) → i < 64 → bit_at POSITIVE i ≡ 1 - i % 2
unfolding all_below
positive_bit i lt = eqb-true (bit_at POSITIVE i) (1 - i % 2) (each_below (λ k. eqb (bit_at POSITIVE k) (1 - k % 2)) 64 i refl lt)

-- where each literal of a pair is marked, at the place of the positive one
abbrev pub pairs_of : ℕ → ℕ
pairs_of word = bit_and (bit_and word (word / 2)) POSITIVE

pairs_bit : (word i : ℕ) → i < 64 → bit_at (pairs_of word) i ≡ min (min (bit_at word i) (bit_at word (i + 1))) (1 - i % 2)
pairs_bit word i lt =
    let next : i + 1 ≡ suc i = omega arith in
    bit_at_and (bit_and word (word / 2)) POSITIVE i ∙ ap (min (bit_at (bit_and word (word / 2)) i)) (positive_bit i lt)
    ∙ ap (λ m. min m (1 - i % 2)) (bit_at_and word (word / 2) i ∙ ap (min (bit_at word i)) (sym (bit_at-suc word i) ∙ ap (bit_at word) (sym next)))

both_digits : (a b : ℕ) → a < 2 → b < 2 → eqb (min (min a b) 1) 1 ≡ (eqb a 1 && eqb b 1)
both_digits a b p q = elim (below_two a p) [
  | inl e ↦ elim (below_two b q) [ inl f ↦ rw (e, f) refl | inr f ↦ rw (e, f) refl ]
  | inr e ↦ elim (below_two b q) [ inl f ↦ rw (e, f) refl | inr f ↦ rw (e, f) refl ]
]

even_bit : (word j : ℕ) → j < 32 → eqb (bit_at (pairs_of word) (2 * j)) 1 ≡ has_pair word j
even_bit word j lt =
    let even : 1 - 2 * j % 2 ≡ 1 = omega arith in
    ap (λ d. eqb d 1) (pairs_bit word (2 * j) (omega arith) ∙ ap (min (min (bit_at word (2 * j)) (bit_at word (2 * j + 1)))) even)
    ∙ both_digits _ _ (bit_at-lt word (2 * j)) (bit_at-lt word (2 * j + 1))

odd_bit : (word j : ℕ) → 2 * j + 1 < 64 → bit_at (pairs_of word) (2 * j + 1) ≡ 0
odd_bit word j lt = let e = pairs_bit word (2 * j + 1) lt in omega (arith, e)

pub no_pair : (word : ℕ) → pairs_of word ≡ 0 → HoldsNowhere (has_pair word) 0 32
no_pair word none k low high = sym (even_bit word k high) ∙ ap (λ n. eqb (bit_at n (2 * k)) 1) none ∙ ap (λ d. eqb d 1) (bit_at-zero (2 * k))

pub first_pair : (word t : ℕ) → t ≡ trailing_zeros w64 (pairs_of word) → 0 < pairs_of word → word < 2 ^ 64 → (t / 2 < 32) × IsFirstPlace (has_pair word) 0 32 (t / 2)
first_pair word t place some fits =
    let less : pairs_of word ≤ word = let p = and_le_l (bit_and word (word / 2)) POSITIVE in let q = and_le_l word (word / 2) in omega arith in
    let lowest = bit_at-trailing_zeros w64 (pairs_of word) some (omega arith) in
    let inside : t < 64 = omega (arith, place, lowest.0) in
    let here : bit_at (pairs_of word) t ≡ 1 = ap (bit_at (pairs_of word)) place ∙ lowest.1 in
    let even : t ≡ 2 * (t / 2) = elim (below_two (t % 2) (omega arith)) [
      | inl e ↦ omega arith
      | inr e ↦
          let at : t ≡ 2 * (t / 2) + 1 = omega arith in
          let none = sym here ∙ ap (bit_at (pairs_of word)) at ∙ odd_bit word (t / 2) (omega arith) in
          absurd (omega (arith, none))
    ] in (
      omega arith,
      record {
        low = omega arith;
        high = omega arith;
        before = λ k low high. sym (even_bit word k (omega arith)) ∙ ap (λ d. eqb d 1) (lowest.2 (2 * k) (omega (arith, place, high)));
        hit = λ _. sym (even_bit word (t / 2) (omega arith)) ∙ ap (λ d. eqb d 1) (ap (bit_at (pairs_of word)) (sym even) ∙ here);
      },
    )

-- ---- the pairs of all words

pub both_in_word : (words : List ℕ) (x : ℕ) → are_both_marked words x ≡ has_pair (get_or words (x / 32) 0) (x % 32)
both_in_word words x =
    let p : (2 * x + 0) / 64 ≡ x / 32 = omega arith in
    let q : (2 * x + 0) % 64 ≡ 2 * (x % 32) = omega arith in
    let r : (2 * x + 1) / 64 ≡ x / 32 = omega arith in
    let s : (2 * x + 1) % 64 ≡ 2 * (x % 32) + 1 = omega arith in
    λ i. word_bit (get_or words (p i) 0) (q i) && word_bit (get_or words (r i) 0) (s i)

both_at : (words : List ℕ) (place j : ℕ) → j < 32 → are_both_marked words (32 * place + j) ≡ has_pair (get_or words place 0) j
both_at words place j lt =
    let p : (32 * place + j) / 32 ≡ place = omega arith in
    let q : (32 * place + j) % 32 ≡ j = omega arith in
    both_in_word words (32 * place + j) ∙ (λ i. has_pair (get_or words (p i) 0) (q i))

-- no variable below x has both of its literals marked
abbrev pub NoneBefore : List ℕ → ℕ → Type 0
NoneBefore words x = (y : ℕ) → 1 ≤ y → y < x → are_both_marked words y ≡ false

none_up_to : (words : List ℕ) (place j : ℕ) → NoneBefore words (32 * place) → HoldsNowhere (has_pair (get_or words place 0)) 0 j → j ≤ 32 → NoneBefore words (32 * place + j)
none_up_to words place j before none few y low high = elim (cases_lt y (32 * place)) [
  | inl lt ↦ before y low lt
  | inr ge ↦
      let at : 32 * place + (y - 32 * place) ≡ y = omega arith in
      subst (λ x. are_both_marked words x ≡ false) at (both_at words place (y - 32 * place) (omega arith) ∙ none (y - 32 * place) (omega arith) (omega arith))
]

pub none_more : (words : List ℕ) (place : ℕ) → NoneBefore words (32 * place) → HoldsNowhere (has_pair (get_or words place 0)) 0 32 → NoneBefore words (32 * (place + 1))
none_more words place before none y low high = none_up_to words place 32 before none (omega arith) y low (omega arith)

pub none_at_all : (words : List ℕ) (n : ℕ) → length words ≤ n → NoneBefore words (32 * n) → IsNoneBoth words
none_at_all words n end before y low = elim (cases_lt y (32 * n)) [
  | inl lt ↦ before y low lt
  | inr ge ↦
      both_in_word words y ∙ ap (λ w. has_pair w (y % 32)) (get_or-eq_default words 0 (let k : length words ≤ y / 32 = omega arith in k))
      ∙ ap (λ d. eqb d 1 && word_bit 0 (2 * (y % 32) + 1)) (bit_at-zero (2 * (y % 32)))
]

pub first_both_here : (words : List ℕ) (place j : ℕ) → NoneBefore words (32 * place) → j < 32 → IsFirstPlace (has_pair (get_or words place 0)) 0 32 j → are_both_marked words 0 ≡ false
    → IsFirstBoth words (32 * place + j)
first_both_here words place j before lt first outside =
    let hit : are_both_marked words (32 * place + j) ≡ true = both_at words place j lt ∙ first.hit lt in
    record {
      positive = elim (cases_lt 0 (32 * place + j)) [
        | inl some ↦ omega arith
        | inr none ↦ let e : 32 * place + j ≡ 0 = omega arith in absurd (true≢false (sym hit ∙ ap (are_both_marked words) e ∙ outside))
      ];
      both = hit;
      least = none_up_to words place j before first.before (omega arith);
    }
