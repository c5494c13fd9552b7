-- Signs as the digits of a number.
use Rattle.std.proofs.Common.{◌≡◌, refl, sym, ap, ◌∙◌, subst, ℕ, zero, suc, ◌+◌, ◌*◌, ◌^◌, ◌<◌, ◌≤◌, Bool, true, false, not, cond, fold, List, [], ◌∷◌, length, map, take, set, get_or, arith, ◌⊎◌, inl, inr, true≢false}
use mathlib.Core.Bool.{beq}
use Rattle.std.specs.Bool.{MatchBool}
use Rattle.std.specs.Int.{from_bool}
use Rattle.std.proofs.Math.Nat.{pow-suc}
use Rattle.std.proofs.lemmas.Bool.{cases_order}
use Rattle.cx_base.specs.Literals.{Literal}
use Rattle.cx_base.specs.Parity.{odd_sum}
use Rattle.std.proofs.lemmas.List.Sums.{fold-append}
use Rattle.gf2_rows.proofs.Words.{differ-beq}
use Rattle.xor_recover.proofs.Reading.{odd_push, take_map_more}
use Rattle.xor_recover.specs.Wholes.{AreOnce, clause_at, signs_code, signs_of, variables_of}

abbrev digit : ℕ → Bool → ℕ
digit n b = 2 * n + cond b 1 0

small_from : (k n : ℕ) (xs : List Bool) → length xs ≤ k → fold digit n xs < (n + 1) * 2 ^ k
small_from zero n [] le = omega arith
small_from zero n (x ∷ xs) le = absurd (omega arith)
small_from (suc k) n [] le = let h = small_from k n [] (omega arith) in subst (λ p. n < (n + 1) * p) (sym (pow-suc 2 k)) (omega (arith, h))
small_from (suc k) n (true ∷ xs) le = let h = small_from k (2 * n + 1) xs (omega arith) in subst (λ p. fold digit (2 * n + 1) xs < (n + 1) * p) (sym (pow-suc 2 k)) (omega (arith, h))
small_from (suc k) n (false ∷ xs) le = let h = small_from k (2 * n + 0) xs (omega arith) in subst (λ p. fold digit (2 * n + 0) xs < (n + 1) * p) (sym (pow-suc 2 k)) (omega (arith, h))

code_small : (xs : List Bool) → length xs ≤ 6 → signs_code xs < 64
code_small xs le = let h = small_from 6 0 xs le in omega (arith, h)

short_front : (k : ℕ) (lits : List Literal) → length (map (λ (l : Literal). l.negative) (take k lits)) ≤ length lits
short_front zero lits = omega arith
short_front (suc k) [] = omega arith
short_front (suc k) (l ∷ lits) = let h = short_front k lits in omega (arith, h)

pub code_of_front : (k n : ℕ) (lits : List Literal) → length lits ≤ 6 → n ≡ signs_code (signs_of (take k lits)) → n < 64
code_of_front k n lits six e = let h = short_front k lits in let small = code_small (signs_of (take k lits)) (omega (arith, h, six)) in omega (arith, e, small)

-- one literal's sign more
bit_is : (b : Bool) (n : ℕ) → n ≡ from_bool b → n ≡ cond b 1 0
bit_is true n e = e
bit_is false n e = e

pub code_more : (lits : List Literal) (k : ℕ) (l : Literal) (n : ℕ) (b : Bool) (bit : ℕ) → k < length lits → l ≡ get_or lits k l → n ≡ signs_code (signs_of (take k lits)) → b ≡ l.negative → bit ≡ from_bool b
    → 2 * n + bit ≡ signs_code (signs_of (take (k + 1) lits))
code_more lits k l n b bit lt is code sign from =
    let so = signs_of (take k lits) in
    (λ i. 2 * code i + (bit_is b bit from ∙ ap (λ (s : Bool). cond s 1 0) sign) i)
    ∙ sym (ap signs_code (take_map_more (λ (x : Literal). x.negative) lits k l lt is) ∙ fold-append digit 0 so (l.negative ∷ []))

pub odd_more : (lits : List Literal) (k : ℕ) (l : Literal) (odd b : Bool) → k < length lits → l ≡ get_or lits k l → odd ≡ odd_sum (signs_of (take k lits)) → b ≡ l.negative
    → not (beq odd b) ≡ odd_sum (signs_of (take (k + 1) lits))
odd_more lits k l odd b lt is e sign =
    let so = signs_of (take k lits) in
    (λ i. not (beq (e i) (sign i))) ∙ differ-beq (odd_sum so) l.negative ∙ sym (ap odd_sum (take_map_more (λ (x : Literal). x.negative) lits k l lt is) ∙ odd_push so l.negative)

-- ---- one clause more

set_true : (xs : List Bool) (p q : ℕ) → (q ≡ p) ⊎ (get_or xs q true ≡ true) → get_or (set xs p true) q true ≡ true
set_true [] p q h = refl
set_true (x ∷ xs) zero zero h = refl
set_true (x ∷ xs) zero (suc q) h = elim h [ inl e ↦ absurd (omega arith) | inr g ↦ g ]
set_true (x ∷ xs) (suc p) zero h = elim h [ inl e ↦ absurd (omega arith) | inr g ↦ g ]
set_true (x ∷ xs) (suc p) (suc q) h = set_true xs p q (elim h [ inl e ↦ inl (omega arith) | inr g ↦ inr g ])

last_or : (j k : ℕ) → j < k + 1 → (j ≡ k) ⊎ (j < k)
last_or j k lt = elim (cases_order j k) [ inl e ↦ inl e | inr order ↦ elim order [ inl below ↦ inr below | inr over ↦ absurd (omega arith) ] ]

abbrev pub AreSeen : List (List Literal) → ℕ → ℕ → List Bool → Type 0
AreSeen C n k seen = (j : ℕ) → j < k → get_or seen (signs_code (signs_of (clause_at C (n + j)))) true ≡ true

pub seen_more : (C : List (List Literal)) (n k p : ℕ) (lits : List Literal) (seen : List Bool) → clause_at C (n + k) ≡ lits → p ≡ signs_code (signs_of lits) → AreSeen C n k seen → AreSeen C n (k + 1) (set seen p true)
seen_more C n k p lits seen read code h j lt = set_true seen p (signs_code (signs_of (clause_at C (n + j)))) (elim (last_or j k lt) [
  | inl e ↦ inl (ap (λ i. signs_code (signs_of (clause_at C (n + i)))) e ∙ ap (λ l. signs_code (signs_of l)) read ∙ sym code)
  | inr before ↦ inr (h j before)
])

pub once_more : (C : List (List Literal)) (n k p : ℕ) (first lits : List Literal) (seen : List Bool) → clause_at C n ≡ first → clause_at C (n + k) ≡ lits → variables_of lits ≡ variables_of first → odd_sum (signs_of lits) ≡ odd_sum (signs_of first)
    → p ≡ signs_code (signs_of lits) → get_or seen p true ≡ false → AreSeen C n k seen → AreOnce C n k → AreOnce C n (k + 1)
once_more C n k p first lits seen begins read vars sums code unseen h once = record {
  variables = λ j lt. elim (last_or j k lt) [
    | inl e ↦ ap (λ i. variables_of (clause_at C (n + i))) e ∙ ap variables_of read ∙ vars ∙ ap variables_of (sym begins)
    | inr before ↦ once.variables j before
  ];
  sums = λ j lt. elim (last_or j k lt) [
    | inl e ↦ ap (λ i. odd_sum (signs_of (clause_at C (n + i)))) e ∙ ap (λ l. odd_sum (signs_of l)) read ∙ sums ∙ ap (λ l. odd_sum (signs_of l)) (sym begins)
    | inr before ↦ once.sums j before
  ];
  apart = λ i j less lt same. elim (last_or j k lt) [
    | inl e ↦ true≢false (sym (h i (omega (arith, less, e))) ∙ ap (λ s. get_or seen (signs_code s) true) (same ∙ ap (λ m. signs_of (clause_at C (n + m))) e ∙ ap signs_of read) ∙ ap (λ m. get_or seen m true) (sym code) ∙ unseen)
    | inr before ↦ once.apart i j less before same
  ];
}

-- one clause is there once
pub once_first : (C : List (List Literal)) (n : ℕ) → AreOnce C n 1
once_first C n = record {
  variables = λ j lt. let e : n + j ≡ n = omega arith in ap (λ m. variables_of (clause_at C m)) e;
  sums = λ j lt. let e : n + j ≡ n = omega arith in ap (λ m. odd_sum (signs_of (clause_at C m))) e;
  apart = λ i j less lt. absurd (omega arith);
}

pub seen_first : (C : List (List Literal)) (n p : ℕ) (first : List Literal) (seen : List Bool) → clause_at C n ≡ first → p ≡ signs_code (signs_of first) → AreSeen C n 1 (set seen p true)
seen_first C n p first seen read code = seen_more C n 0 p first seen (let e : n + 0 ≡ n = omega arith in ap (clause_at C) e ∙ read) code (λ j lt. absurd (omega arith))

pub taken_is : (b : Bool) (P Q : Type 0) → b ≡ true → MatchBool b P Q → P
taken_is true P Q e h = h
taken_is false P Q e h = absurd (true≢false (sym e))

pub bit_low : (b : Bool) (n : ℕ) → n ≡ from_bool b → n ≤ 1
bit_low true n e = omega arith
bit_low false n e = omega arith

pub not_unlike : (a b : Bool) → not (beq a b) ≡ false → a ≡ b
not_unlike true true e = refl
not_unlike true false e = absurd (true≢false e)
not_unlike false true e = absurd (true≢false e)
not_unlike false false e = refl
