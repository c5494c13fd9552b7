-- Values cut or filled to a length, and the parities and equations that they meet.
use Rattle.std.proofs.Common.{◌≡◌, ℕ, ◌+◌, ◌-◌, ◌<◌, ◌≤◌, zero, suc, Bool, true, false, ◌&&◌, max, List, [], ◌∷◌, map, length, get_or, refl, sym, ap, ◌∙◌, subst, arith, inl, inr, true≢false}
use Rattle.std.specs.List.{list_all, AllByRecursion, range_with_len}
use Rattle.std.specs.FinSet as set
use Rattle.std.proofs.Math.ListN.{get_or-eq_default}
use Rattle.std.proofs.lemmas.List.FromFn.{get_or-map-range_with_len, length-map-range_with_len}
use Rattle.std.proofs.lemmas.Bool.{cases_lt, false_from_ne_true}
use Rattle.cx_base.specs.Literals.{Literal, differ, value_of}
use Rattle.cx_base.specs.Problem.{AreWithin, parity_met}
use Rattle.cx_base.specs.Parity.{normal_form}
use Rattle.cx_base.proofs.Odd.{parity_met-cons}
use Rattle.cx_base.proofs.ParityLaws.{sum_of_members, Sums, AreBelow, Sums-from_met, met-from_Sums}
use Rattle.parity_engine.specs.Equations.{Equation, has_term, form_of}
use Rattle.gf2_matrix.specs.Totals.{MeetsEquation}
use Rattle.parity_engine.proofs.Forms.{contains-form, contains-form_zero}
use Rattle.gf2_matrix.proofs.Products.{and_same}
use Rattle.gf2_matrix.proofs.FormSums.{sum_below-same, meets_from_Sums, Sums_from_meets}

-- ---- values of any length
pub resized : ℕ → List Bool → List Bool
resized n v = map (λ x. get_or v x false) (range_with_len 0 n)

pub length-resized : (n : ℕ) (v : List Bool) → length (resized n v) ≡ n
unfolding resized
length-resized n v = length-map-range_with_len (λ x. get_or v x false) 0 n

pub resized-at : (n : ℕ) (v : List Bool) (x : ℕ) → x < n → get_or (resized n v) x false ≡ get_or v x false
unfolding resized
resized-at n v x lt = get_or-map-range_with_len (λ y. get_or v y false) 0 n x x false lt (omega arith)

pub met-resized : (n : ℕ) (v : List Bool) (lits : List Literal) → AreWithin n lits → parity_met (resized n v) lits ≡ parity_met v lits
met-resized n v [] within = refl
met-resized n v (l ∷ lits) within =
    parity_met-cons (resized n v) l lits
    ∙ (λ i. differ (differ l.negative (resized-at n v (l.variable - 1) (let a = within.0.0 in let b = within.0.1 in omega arith) i)) (met-resized n v lits within.1 i))
    ∙ sym (parity_met-cons v l lits)

pub all_met-resized : (n : ℕ) (v : List Bool) (parities : List (List Literal)) → AllByRecursion (AreWithin n) parities
    → list_all (parity_met (resized n v)) parities ≡ list_all (parity_met v) parities
all_met-resized n v [] within = refl
all_met-resized n v (lits ∷ parities) within = (λ i. met-resized n v lits within.0 i && all_met-resized n v parities within.1 i)

-- ---- a parity of the equation's normal form
most : List Literal → ℕ
most [] = 0
most (l ∷ lits) = max l.variable (most lits)

below_most : (m : ℕ) (lits : List Literal) → most lits ≤ m → AreBelow (suc m) lits
unfolding most
below_most m [] le = tt
below_most m (l ∷ lits) le = (omega arith, below_most m lits (omega arith))

-- the sum over the set is the same for the values as they are
members-resized : (n m : ℕ) (v : List Bool) (e : Equation) → length e.terms ≡ n → sum_of_members m v (form_of e).variables ≡ sum_of_members m (resized n v) (form_of e).variables
members-resized n m v e long =
    sum_below-same m (λ x. set.contains (form_of e).variables x && value_of v x) (λ x. set.contains (form_of e).variables x && value_of (resized n v) x)
    (λ x lt. each x)
  where
    each : (x : ℕ) → (set.contains (form_of e).variables x && value_of v x) ≡ (set.contains (form_of e).variables x && value_of (resized n v) x)
    each zero = (λ i. contains-form_zero e i && value_of v 0) ∙ sym (λ i. contains-form_zero e i && value_of (resized n v) 0)
    each (suc x) =
        let q : suc x ≡ x + 1 = omega arith in
        let r : suc x - 1 ≡ x = omega arith in
        and_same (set.contains (form_of e).variables (suc x)) (value_of v (suc x)) (value_of (resized n v) (suc x))
        (λ has.
        let term : has_term e x ≡ true = sym (contains-form e x) ∙ ap (set.contains (form_of e).variables) (sym q) ∙ has in
        ap (λ i. get_or v i false) r
        ∙ elim (cases_lt x n) [
          | inl small ↦ sym (resized-at n v x small)
          | inr ge ↦ absurd (true≢false (sym term ∙ get_or-eq_default e.terms false (omega arith)))
        ]
        ∙ sym (ap (λ i. get_or (resized n v) i false) r))

pub form_met : (n : ℕ) (v : List Bool) (e : Equation) (lits : List Literal) → length e.terms ≡ n → normal_form lits ≡ form_of e → MeetsEquation (resized n v) e → parity_met v lits ≡ true
form_met n v e lits long is meets =
    let m : ℕ = n + most lits in
    let sums : Sums (suc m) (resized n v) (form_of e) = Sums_from_meets m (resized n v) e (long ∙ sym (length-resized n v)) (omega (arith, length-resized n v)) meets in
    met-from_Sums (suc m) v lits (below_most m lits (omega arith))
    (subst (Sums (suc m) v) (sym is) (members-resized n (suc m) v e long ∙ sums))

pub meets_form : (n : ℕ) (v : List Bool) (e : Equation) (lits : List Literal) → length e.terms ≡ n → normal_form lits ≡ form_of e → parity_met v lits ≡ true → MeetsEquation (resized n v) e
meets_form n v e lits long is met =
    let m : ℕ = n + most lits in
    let sums : Sums (suc m) v (form_of e) = subst (Sums (suc m) v) is (Sums-from_met (suc m) v lits (below_most m lits (omega arith)) met) in
    meets_from_Sums m (resized n v) e (long ∙ sym (length-resized n v)) (omega (arith, length-resized n v)) (sym (members-resized n (suc m) v e long) ∙ sums)

pub form_missed : (n : ℕ) (v : List Bool) (e : Equation) (lits : List Literal) → length e.terms ≡ n → normal_form lits ≡ form_of e → (MeetsEquation (resized n v) e → ⊥) → parity_met v lits ≡ false
form_missed n v e lits long is misses = false_from_ne_true (parity_met v lits) (λ met. misses (meets_form n v e lits long is met))
