-- Each sum of parities is the normal form of some list of literals.
use Rattle.std.proofs.Common.{◌≡◌, refl, sym, ap, ◌∙◌, ℕ, Bool, true, false, not, eqb, List, [], ◌∷◌, ◌++◌, map}
use Rattle.std.proofs.lemmas.List.{map-append}
use Rattle.std.specs.FinSet as set
use Rattle.std.specs.Ordering.{nat_cmp}
use Rattle.cx_base.specs.Literals.{Literal, differ}
use Rattle.cx_base.specs.Parity.{NormalForm, normal_form, sum_of, symmetric_difference, odd_sum}
use Rattle.cx_base.proofs.ParityLaws.{contains-symmetric_difference}
use Rattle.cx_base.proofs.Differences.{differ_again}
use Rattle.gf2_rows.proofs.Words.{parity-append}
use Rattle.parity_engine.proofs.Forms.{same_form}
use Rattle.parity_engine.proofs.Literals.{contains_parity, right_parity}

-- one variable with both signs: no variable is left, and the right side is 0
abbrev both_signs : List Literal
both_signs = record { variable = 1; negative = false } ∷ record { variable = 1; negative = true } ∷ []

abbrev has_variable : ℕ → Literal → Bool
has_variable y l = eqb l.variable y

abbrev is_negative : Literal → Bool
is_negative l = l.negative

split : (f : Literal → Bool) (xs ys : List Literal) → odd_sum (map f (xs ++ ys)) ≡ differ (odd_sum (map f xs)) (odd_sum (map f ys))
split f xs ys = ap odd_sum (map-append f xs ys) ∙ parity-append (map f xs) (map f ys)

turned : (a b : Bool) → not (differ a (not b)) ≡ differ (not a) (not b)
turned true true = refl
turned true false = refl
turned false true = refl
turned false false = refl

both_turn : (b : Bool) → differ false (differ true b) ≡ not b
both_turn true = refl
both_turn false = refl

nothing : normal_form both_signs ≡ sum_of []
unfolding sum_of
nothing = same_form (normal_form both_signs) (record { variables = set.empty; right_side = false })
    (λ y. contains_parity both_signs y ∙ differ_again (eqb 1 y) false ∙ sym (set.contains-empty nat_cmp y)) (right_parity both_signs)

-- the sum of two normal forms is that of the two lists, with both signs between them
added : (lits more : List Literal) (f : NormalForm) → normal_form more ≡ f → normal_form (lits ++ (both_signs ++ more)) ≡ record { variables = symmetric_difference (normal_form lits).variables f.variables; right_side = differ (normal_form lits).right_side f.right_side }
added lits more f is = same_form (normal_form (lits ++ (both_signs ++ more))) _
    (λ y. contains_parity (lits ++ (both_signs ++ more)) y ∙ split (has_variable y) lits (both_signs ++ more)
    ∙ ap (differ (odd_sum (map (has_variable y) lits))) (differ_again (eqb 1 y) (odd_sum (map (has_variable y) more)))
    ∙ (λ i. differ (sym (contains_parity lits y) i) (sym (contains_parity more y) i))
    ∙ ap (λ (g : NormalForm). differ (set.contains (normal_form lits).variables y) (set.contains g.variables y)) is
    ∙ sym (contains-symmetric_difference (normal_form lits).variables f.variables y))
    (right_parity (lits ++ (both_signs ++ more))
    ∙ ap not (split is_negative lits (both_signs ++ more) ∙ ap (differ (odd_sum (map is_negative lits))) (both_turn (odd_sum (map is_negative more))))
    ∙ turned (odd_sum (map is_negative lits)) (odd_sum (map is_negative more))
    ∙ (λ i. differ (sym (right_parity lits) i) (sym (right_parity more) i))
    ∙ ap (λ (g : NormalForm). differ (normal_form lits).right_side g.right_side) is)

step : (p : List Literal) (fs : List NormalForm) → record { variables = symmetric_difference (normal_form p).variables (sum_of fs).variables; right_side = differ (normal_form p).right_side (sum_of fs).right_side } ≡ sum_of (normal_form p ∷ fs)
unfolding sum_of
step p fs = refl

pub sum_is_written : (lists : List (List Literal)) → (lits : List Literal) × (normal_form lits ≡ sum_of (map normal_form lists))
sum_is_written [] = (both_signs, nothing)
sum_is_written (p ∷ lists) = let r = sum_is_written lists in (p ++ (both_signs ++ r.0), added p r.0 (sum_of (map normal_form lists)) r.1 ∙ step p (map normal_form lists))
