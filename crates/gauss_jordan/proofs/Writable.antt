-- A named row can be written as a parity.
use Rattle.std.proofs.Common.{◌≡◌, ℕ, ◌+◌, ◌≤◌, Bool, true, false, ◌||◌, List, [], ◌∷◌, length, get_or, Some, None, inl, inr, ◌⊎◌, refl, sym, ap, ◌∙◌, subst, arith, true≢false}
use Rattle.std.specs.List.{list_any}
use Rattle.std.specs.Ordering.{nat_cmp, eq_by_cmp, is_eq}
use Rattle.std.specs.FinSet as set
use Rattle.std.proofs.Math.ListN.{get_or-eq_default}
use Rattle.std.proofs.lemmas.Option.{same_Some}
use Rattle.std.proofs.lemmas.Bool.{cases_eq, cases_lt}
use Rattle.std.specs.Cmp.{nat_cmp_total, tied_itself}
use Rattle.cx_base.specs.Literals.{Literal, differ, value_of}
use Rattle.cx_base.specs.Problem.{parity_met}
use Rattle.cx_base.specs.Parity.{NormalForm, normal_form}
use Rattle.cx_base.proofs.Odd.{parity_met-cons}
use Rattle.cx_base.proofs.Differences.{differ_again}
use Rattle.parity_engine.specs.Written.{IsWritable}
use Rattle.parity_engine.proofs.Forms.{same_form}
use Rattle.parity_engine.proofs.Literals.{contains_parity, right_parity}
use Rattle.parity_engine.specs.State.{State, Named, IsBroken}
use Rattle.gauss_jordan.specs.System.{filled}
use Rattle.gauss_jordan.specs.Right.{IsRightState, column_at}
use Rattle.gauss_jordan.proofs.Events.{known_agrees, filled_agrees}

-- one variable with both signs: no variable is left, and the right side is 0
both_signs : List Literal
both_signs = record { variable = 1; negative = false } ∷ record { variable = 1; negative = true } ∷ []

no_variable : (y : ℕ) → set.contains (normal_form both_signs).variables y ≡ false
unfolding both_signs
no_variable y = contains_parity both_signs y ∙ differ_again _ false

right_zero : (normal_form both_signs).right_side ≡ false
unfolding both_signs
right_zero = right_parity both_signs

one_true : (b : Bool) → differ (differ false b) (differ (differ true b) false) ≡ true
one_true true = refl
one_true false = refl

is_met : (v : List Bool) → parity_met v both_signs ≡ true
unfolding both_signs
is_met v =
    parity_met-cons v (record { variable = 1; negative = false }) (record { variable = 1; negative = true } ∷ [])
    ∙ ap (differ (differ false (value_of v 1))) (parity_met-cons v (record { variable = 1; negative = true }) [])
    ∙ one_true (value_of v 1)

-- a set has a member or none
some_or_none : (s : set.FinSet nat_cmp) → ((v : ℕ) × (set.contains s v ≡ true)) ⊎ ((y : ℕ) → set.contains s y ≡ false)
some_or_none s = cases (set.items s) refl
  where
    cases : (items : List ℕ) → set.items s ≡ items → ((v : ℕ) × (set.contains s v ≡ true)) ⊎ ((y : ℕ) → set.contains s y ≡ false)
    cases [] is = inr (λ y. set.contains-items s y ∙ ap (list_any (eq_by_cmp nat_cmp y)) is)
    cases (x ∷ items) is =
        inl (x, set.contains-items s x ∙ ap (list_any (eq_by_cmp nat_cmp x)) is ∙ ap (λ b. b || list_any (eq_by_cmp nat_cmp x) items) (ap is_eq (tied_itself nat_cmp_total x)))

pub broken_writable : (s : State) (f : NormalForm) → IsBroken s f → IsWritable f
broken_writable s f broken =
    elim (some_or_none f.variables) [
      | inl some ↦ inl some
      | inr none ↦ right_or_zero f.right_side refl none
    ]
  where
    right_or_zero : (b : Bool) → f.right_side ≡ b → ((y : ℕ) → set.contains f.variables y ≡ false) → IsWritable f
    right_or_zero true is none = inr is
    right_or_zero false is none =
        let same : normal_form both_signs ≡ f = same_form (normal_form both_signs) f (λ y. no_variable y ∙ sym (none y)) (right_zero ∙ sym is) in
        absurd (true≢false (sym (is_met (filled s)) ∙ broken.unmet (filled s) (known_agrees s (filled s) (filled_agrees s)) both_signs same))

pub named_writable : (columns : List ℕ) (s : State) (k : ℕ) (n : Named) → IsRightState columns s → get_or s.named k None ≡ Some n → IsWritable n.form
named_writable columns s k n right is =
    elim (cases_lt k (length columns)) [
      | inl lt ↦ let r = right.reasons k n lt is in inl (column_at columns k + 1, r.has)
      | inr ge ↦
          elim (cases_eq k (length columns)) [
            | inl e ↦
                let at : get_or s.named (length columns) None ≡ Some n = ap (λ i. get_or s.named i None) (sym e) ∙ is in
                let b = right.broken (right.clash n at) in
                let same : b.0 ≡ n = same_Some b.0 n (sym b.1 ∙ at) in
                broken_writable s n.form (subst (λ (m : Named). IsBroken s m.form) same b.5)
            | inr ne ↦
                let out : length s.named ≤ k = let r = right.rows in omega arith in
                absurd (let clash : None ≡ Some n = sym (get_or-eq_default s.named None out) ∙ is in cc)
          ]
    ]
