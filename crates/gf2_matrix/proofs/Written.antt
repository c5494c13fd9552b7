-- Parities as they are written from words.
use Rattle.std.proofs.Common.{◌≡◌, ℕ, ◌+◌, suc, Bool, true, false, not, ◌&&◌, ◌||◌, eqb, nat_eq, List, [], ◌∷◌, ◌++◌, map, length, refl, sym, ap, ◌∙◌, subst, arith, inl, inr, ◌⊎◌, true≢false}
use Rattle.std.specs.List.{list_any}
use Rattle.std.specs.FinSet as set
use Rattle.std.proofs.lemmas.List.{map-append}
use Rattle.std.proofs.lemmas.Bool.{cases_eq, eq-eqb, ne_eqb}
use Rattle.cx_base.specs.Literals.{Literal, differ, positive_of}
use Rattle.cx_base.specs.Parity.{normal_form, odd_sum}
use Rattle.gf2_rows.specs.Bits.{bit_of}
use Rattle.gf2_matrix.specs.Columns.{place}
use Rattle.gf2_matrix.specs.Views.{IsView, picked, viewed, viewed_form}
use Rattle.parity_engine.specs.Written.{literals_with, Rises, IsWritable, IsWritten}
use Rattle.parity_engine.proofs.Forms.{same_from_one, contains-form_zero}
use Rattle.parity_engine.proofs.Literals.{contains_parity, right_parity}
use Rattle.parity_engine.proofs.Rising.{none_below}
use Rattle.gf2_matrix.proofs.Columns.{picked_rises, any_picked, contains_viewed}

-- ---- written literals
variables-positive : (vs : List ℕ) → map (λ (l : Literal). l.variable) (map positive_of vs) ≡ vs
variables-positive [] = refl
variables-positive (v ∷ vs) = ap (λ xs. v ∷ xs) (variables-positive vs)

pub variables_written : (right : Bool) (vs : List ℕ) → map (λ (l : Literal). l.variable) (literals_with right vs) ≡ vs
variables_written right [] = refl
variables_written true (v ∷ vs) = ap (λ xs. v ∷ xs) (variables-positive vs)
variables_written false (v ∷ vs) = ap (λ xs. v ∷ xs) (variables-positive vs)

negatives-positive : (vs : List ℕ) → odd_sum (map (λ (l : Literal). l.negative) (map positive_of vs)) ≡ false
negatives-positive [] = refl
negatives-positive (v ∷ vs) = negatives-positive vs

negatives_written : (right : Bool) (v : ℕ) (vs : List ℕ) → odd_sum (map (λ (l : Literal). l.negative) (literals_with right (v ∷ vs))) ≡ not right
negatives_written true v vs = negatives-positive vs
negatives_written false v vs = ap not (negatives-positive vs)

pub written-push : (right : Bool) (vs : List ℕ) (v : ℕ)
    → literals_with right (vs ++ v ∷ []) ≡ literals_with right vs ++ record { variable = v; negative = not right && eqb (length (literals_with right vs)) 0 } ∷ []
written-push true [] v = refl
written-push true (x ∷ vs) v = ap (λ xs. positive_of x ∷ xs) (map-append positive_of vs (v ∷ []))
written-push false [] v = refl
written-push false (x ∷ vs) v =
    let later : eqb (suc (length (map positive_of vs))) 0 ≡ false = ne_eqb (suc (length (map positive_of vs))) 0 (λ e. omega arith) in
    ap (λ xs. record { variable = x; negative = true } ∷ xs)
    (map-append positive_of vs (v ∷ []) ∙ ap (λ b. map positive_of vs ++ record { variable = v; negative = b } ∷ []) (sym later))

pub written_more : (right : Bool) (vs : List ℕ) (lits more : List Literal) (l : Literal) (v w n : ℕ) (b : Bool) → lits ≡ literals_with right vs → more ≡ lits ++ l ∷ []
    → l ≡ record { variable = w; negative = b } → w ≡ v → b ≡ (not right && eqb n 0) → n ≡ length lits → more ≡ literals_with right (vs ++ v ∷ [])
written_more right vs lits more l v w n b is pushed made at sign long =
    pushed ∙ ap (λ m. lits ++ m ∷ []) (made ∙ (λ i. record { variable = at i; negative = (sign ∙ ap (λ k. not right && eqb k 0) long) i }))
    ∙ ap (λ ls. ls ++ record { variable = v; negative = not right && eqb (length ls) 0 } ∷ []) is ∙ sym (written-push right vs v)

-- different variables: one is there an odd number of times where it is there
occurs-rising : (least : ℕ) (vs : List ℕ) (y : ℕ) → Rises least vs → odd_sum (map (λ v. eqb v y) vs) ≡ list_any (λ z. nat_eq z y) vs
occurs-rising least [] y rise = refl
occurs-rising least (v ∷ vs) y rise =
    elim (cases_eq v y) [
      | inl e ↦
          let gone = none_below (v + 1) vs y rise.1 (omega arith) in
          (λ i. differ (eq-eqb v y e i) ((occurs-rising (v + 1) vs y rise.1 ∙ gone) i)) ∙ sym (ap (λ b. b || list_any (λ z. nat_eq z y) vs) (eq-eqb v y e))
      | inr ne ↦
          (λ i. differ (ne_eqb v y ne i) (occurs-rising (v + 1) vs y rise.1 i)) ∙ sym (ap (λ b. b || list_any (λ z. nat_eq z y) vs) (ne_eqb v y ne))
    ]

through-variables : (lits : List Literal) (y : ℕ) → odd_sum (map (λ (l : Literal). eqb l.variable y) lits) ≡ odd_sum (map (λ v. eqb v y) (map (λ (l : Literal). l.variable) lits))
through-variables [] y = refl
through-variables (l ∷ lits) y = ap (differ (eqb l.variable y)) (through-variables lits y)

contains_written : (right : Bool) (vs : List ℕ) (y : ℕ) → Rises 1 vs → set.contains (normal_form (literals_with right vs)).variables y ≡ list_any (λ z. nat_eq z y) vs
contains_written right vs y rise =
    contains_parity (literals_with right vs) y ∙ through-variables (literals_with right vs) y
    ∙ ap (λ xs. odd_sum (map (λ v. eqb v y) xs)) (variables_written right vs) ∙ occurs-rising 1 vs y rise

right_written : (right : Bool) (vs : List ℕ) → ((y : ℕ) × (list_any (λ z. nat_eq z y) vs ≡ true)) ⊎ (right ≡ true) → (normal_form (literals_with right vs)).right_side ≡ right
right_written true [] some = right_parity []
right_written false [] (inl some) = absurd (true≢false (sym some.1))
right_written false [] (inr e) = absurd (true≢false (sym e))
right_written right (v ∷ vs) some = right_parity (literals_with right (v ∷ vs)) ∙ ap not (negatives_written right v vs) ∙ twice right
  where
    twice : (b : Bool) → not (not b) ≡ b
    twice true = refl
    twice false = refl

pub is_written : (vars : ℕ) (columns : List ℕ) (start : ℕ) (words : List ℕ) (right : Bool) → IsView vars columns start words → IsWritable (viewed_form vars columns start words right)
    → IsWritten (viewed_form vars columns start words right) (literals_with right (picked start words columns))
is_written vars columns start words right is some =
    let vs : List ℕ = picked start words columns in
    let rise : Rises 1 vs = picked_rises start 1 vars words columns is.rise in
    let any : (y : ℕ) → list_any (λ z. nat_eq z y) vs ≡ bit_of words (start + place columns y) =
    λ y. any_picked start 1 vars words columns y is.rise (is.padded (start + length columns) (omega arith)) in
    let alike : (x : ℕ) → set.contains (normal_form (literals_with right vs)).variables (x + 1) ≡ set.contains (viewed_form vars columns start words right).variables (x + 1) =
    λ x. contains_written right vs (x + 1) rise ∙ any (x + 1) ∙ sym (contains_viewed vars columns start words right (x + 1) is (omega arith)) in
    let member : (v : ℕ) → set.contains (viewed_form vars columns start words right).variables v ≡ true → list_any (λ z. nat_eq z v) vs ≡ true =
    λ v h.
    elim (cases_eq v 0) [
      | inl z ↦ absurd (true≢false (sym h ∙ ap (set.contains (viewed_form vars columns start words right).variables) z ∙ contains-form_zero (viewed vars columns start words right)))
      | inr nz ↦ any v ∙ sym (contains_viewed vars columns start words right v is (omega arith)) ∙ h
    ] in
    let picked_some : ((y : ℕ) × (list_any (λ z. nat_eq z y) vs ≡ true)) ⊎ (right ≡ true) = elim some [ inl s ↦ inl (s.0, member s.0 s.1) | inr r ↦ inr r ] in
    record {
      normal =
          same_from_one (normal_form (literals_with right vs)) (viewed_form vars columns start words right)
          (contains_written right vs 0 rise ∙ none_below 1 vs 0 rise (omega arith)) (contains-form_zero (viewed vars columns start words right)) alike
          (right_written right vs picked_some);
      rises = subst (Rises 1) (sym (variables_written right vs)) rise;
      signs = ap (literals_with right) (sym (variables_written right vs));
    }
