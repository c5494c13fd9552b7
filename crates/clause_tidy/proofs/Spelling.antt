-- The integers of a clause that is part of another.
use Rattle.std.proofs.Common.{◌≡◌, refl, sym, ap, ◌∙◌, subst, ℕ, zero, suc, nat_abs, ◌≤◌, Bool, true, false, List, [], ◌∷◌, ◌||◌, arith, inl, inr}
use Rattle.std.specs.List.{list_any, AllByRecursion}
use Rattle.std.specs.Prelude.{nat_lt}
use Rattle.std.proofs.lemmas.Bool.{ltb-true}
use Rattle.cx_base.specs.Literals.{Literal}
use Rattle.cx_base.specs.Problem.{AreWithin}
use Rattle.cx_base.specs.Integers.{integer_of, integers_of, literal, literals}
use Rattle.cx_semantics.specs.Chain.{has_literal, is_inside}
use Rattle.cx_semantics.proofs.Closure.{has_by_inside}
use Rattle.cx_semantics.proofs.Members.{has_at_head, has_behind, has_split}
use Rattle.clause_tidy.proofs.Literals.{not_both, by_cases}

pub each_at : (P : Literal → Type 0) (lits : List Literal) (l : Literal) → AllByRecursion P lits → has_literal lits l ≡ true → P l
each_at P [] l h k = not_both false k refl
each_at P (x ∷ lits) l h k = elim (has_split x lits l k) [ inl e ↦ subst P (sym e) h.0 | inr g ↦ each_at P lits l h.1 g ]

pub each_by : (P : Literal → Type 0) (lits : List Literal) → ((l : Literal) → has_literal lits l ≡ true → P l) → AllByRecursion P lits
each_by P [] h = tt
each_by P (x ∷ lits) h = (h x (has_at_head x lits), each_by P lits (λ l k. h l (has_behind x lits l k)))

pub within_part : (n : ℕ) (part lits : List Literal) → is_inside part lits ≡ true → AreWithin n lits → AreWithin n part
within_part n part lits h w = each_by (λ l. (1 ≤ l.variable) × (l.variable ≤ n)) part (λ l k. each_at (λ m. (1 ≤ m.variable) × (m.variable ≤ n)) lits l w (has_by_inside part lits l h k))

-- ---- one literal
size : (n : ℕ) (b : Bool) → nat_abs (integer_of (record { variable = n; negative = b })) ≡ n
size zero true = refl
size zero false = refl
size (suc n) true = refl
size (suc n) false = refl

spelt : (n : ℕ) (b : Bool) → 1 ≤ n → literal (integer_of (record { variable = n; negative = b })) ≡ record { variable = n; negative = b }
spelt zero b h = absurd (omega (arith, h))
spelt (suc n) true h = refl
spelt (suc n) false h = refl

-- ---- all of them
pub spells : (n : ℕ) (lits : List Literal) → AreWithin n lits → literals (integers_of lits) ≡ lits
spells n [] w = refl
spells n (l ∷ lits) w = (λ i. spelt l.variable l.negative w.0.0 i ∷ spells n lits w.1 i)

not_above : (a b : ℕ) → b ≤ a → nat_lt a b ≡ false
not_above a b h = by_cases (nat_lt a b) (λ e. absurd (omega (arith, h, ltb-true a b e))) (λ e. e)

pub none_above : (n : ℕ) (lits : List Literal) → AreWithin n lits → list_any (λ z. nat_lt n (nat_abs z)) (integers_of lits) ≡ false
none_above n [] w = refl
none_above n (l ∷ lits) w = ap (λ b. b || (list_any (λ z. nat_lt n (nat_abs z)) (integers_of lits))) (ap (nat_lt n) (size l.variable l.negative) ∙ not_above n l.variable w.0.1) ∙ none_above n lits w.1
