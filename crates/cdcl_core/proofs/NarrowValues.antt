-- Constraints look at no values but those of their variables.
use Rattle.std.proofs.Common.{◌≡◌, refl, sym, ap, ◌∙◌, ℕ, zero, suc, ◌-◌, ◌<◌, ◌≤◌, Bool, false, ◌&&◌, ◌||◌, List, [], ◌∷◌, ◌++◌, length, get_or, replicate, arith, length-append, take_all}
use Rattle.std.specs.List.{list_all, AllByRecursion}
use Rattle.std.proofs.lemmas.List.{length-replicate}
use Rattle.cx_base.specs.Literals.{Literal, differ, value_of, literal_true}
use Rattle.cx_base.specs.Problem.{Problem, Meets, Unmet, AreWithin, literals_of, clause_met, parity_met, assumption_met, constraint_met}
use Rattle.cx_base.specs.declared.constraint.Constraint.{Constraint}
use Rattle.cx_base.specs.declared.constraint.Constraint.TheVariants as constraint
use Rattle.cx_base.proofs.Odd.{parity_met-cons}
use Rattle.cdcl_core.specs.Narrowing.{over, padded}

-- ---- values that agree

-- the two give each variable up to m the same value
abbrev pub Agree : ℕ → List Bool → List Bool → Type 0
Agree m v w = (x : ℕ) → 1 ≤ x → x ≤ m → value_of v x ≡ value_of w x

-- each literal of the constraints is of a variable up to m
abbrev pub AllWithin : ℕ → List Constraint → Type 0
AllWithin m cs = AllByRecursion (λ c. AreWithin m (literals_of c)) cs

module _ (m : ℕ) (v w : List Bool) (agree : Agree m v w) where
  pub literal_agrees : (l : Literal) → 1 ≤ l.variable → l.variable ≤ m → literal_true v l ≡ literal_true w l
  literal_agrees l low high = ap (differ l.negative) (agree l.variable low high)

  clause_agrees : (lits : List Literal) → AreWithin m lits → clause_met v lits ≡ clause_met w lits
  clause_agrees [] h = refl
  clause_agrees (l ∷ lits) h = λ i. literal_agrees l h.0.0 h.0.1 i || clause_agrees lits h.1 i

  pub parity_agrees : (lits : List Literal) → AreWithin m lits → parity_met v lits ≡ parity_met w lits
  parity_agrees [] h = refl
  parity_agrees (l ∷ lits) h = parity_met-cons v l lits ∙ (λ i. differ (literal_agrees l h.0.0 h.0.1 i) (parity_agrees lits h.1 i)) ∙ sym (parity_met-cons w l lits)

  assumption_agrees : (lits : List Literal) → AreWithin m lits → assumption_met v lits ≡ assumption_met w lits
  assumption_agrees [] h = refl
  assumption_agrees (l ∷ lits) h = λ i. literal_agrees l h.0.0 h.0.1 i && assumption_agrees lits h.1 i

  constraint_agrees : (c : Constraint) → AreWithin m (literals_of c) → constraint_met v c ≡ constraint_met w c
  constraint_agrees (constraint.Clause lits) h = clause_agrees lits h
  constraint_agrees (constraint.Parity lits) h = parity_agrees lits h
  constraint_agrees (constraint.Assume lits) h = assumption_agrees lits h

  pub all_agree : (cs : List Constraint) → AllWithin m cs → list_all (constraint_met v) cs ≡ list_all (constraint_met w) cs
  all_agree [] h = refl
  all_agree (c ∷ cs) h = λ i. constraint_agrees c h.0 i && all_agree cs h.1 i

-- ---- false for more variables

false_above : (v : List Bool) (k i : ℕ) → get_or (v ++ replicate k false) i false ≡ get_or v i false
false_above [] zero i = refl
false_above [] (suc k) zero = refl
false_above [] (suc k) (suc i) = false_above [] k i
false_above (b ∷ v) k zero = refl
false_above (b ∷ v) k (suc i) = false_above v k i

pub padded_meets : (m : ℕ) (formula : Problem) (v : List Bool) → m ≤ formula.variables → AllWithin m formula.constraints → Meets (over m formula) v → Meets formula (padded formula.variables v)
padded_meets m formula v few within met =
    let more : ℕ = formula.variables - length v in
    let long : length v ≡ m = met.one_each in
    let whole : padded formula.variables v ≡ v ++ replicate more false = ap (λ u. u ++ replicate more false) (take_all formula.variables v (omega (arith, few, long))) in
    let size : length (v ++ replicate more false) ≡ formula.variables = omega (arith, few, long, length-append v (replicate more false), length-replicate more false) in
    record {
      one_each = ap length whole ∙ size;
      all_met = ap (λ u. list_all (constraint_met u) formula.constraints) whole ∙ all_agree m (v ++ replicate more false) v (λ x low high. false_above v more (x - 1)) formula.constraints within ∙ met.all_met;
    }

-- ---- the first m of some values, and others after them

abbrev pub mixed : ℕ → List Bool → List Bool → List Bool
mixed zero v w = w
mixed (suc m) [] [] = false ∷ mixed m [] []
mixed (suc m) [] (c ∷ w) = false ∷ mixed m [] w
mixed (suc m) (b ∷ v) [] = b ∷ mixed m v []
mixed (suc m) (b ∷ v) (c ∷ w) = b ∷ mixed m v w

length-mixed : (m : ℕ) (v : List Bool) → length (mixed m v []) ≡ m
length-mixed zero v = refl
length-mixed (suc m) [] = ap suc (length-mixed m [])
length-mixed (suc m) (b ∷ v) = ap suc (length-mixed m v)

pub below_mixed : (m : ℕ) (v w : List Bool) (i : ℕ) → i < m → get_or (mixed m v w) i false ≡ get_or v i false
below_mixed zero v w i h = absurd (omega arith)
below_mixed (suc m) [] [] zero h = refl
below_mixed (suc m) [] (c ∷ w) zero h = refl
below_mixed (suc m) (b ∷ v) [] zero h = refl
below_mixed (suc m) (b ∷ v) (c ∷ w) zero h = refl
below_mixed (suc m) [] [] (suc i) h = below_mixed m [] [] i (omega arith)
below_mixed (suc m) [] (c ∷ w) (suc i) h = below_mixed m [] w i (omega arith)
below_mixed (suc m) (b ∷ v) [] (suc i) h = below_mixed m v [] i (omega arith)
below_mixed (suc m) (b ∷ v) (c ∷ w) (suc i) h = below_mixed m v w i (omega arith)

pub above_mixed : (m : ℕ) (v w : List Bool) (i : ℕ) → m ≤ i → get_or (mixed m v w) i false ≡ get_or w i false
above_mixed zero v w i h = refl
above_mixed (suc m) v w zero h = absurd (omega arith)
above_mixed (suc m) [] [] (suc i) h = above_mixed m [] [] i (omega arith)
above_mixed (suc m) [] (c ∷ w) (suc i) h = above_mixed m [] w i (omega arith)
above_mixed (suc m) (b ∷ v) [] (suc i) h = above_mixed m v [] i (omega arith)
above_mixed (suc m) (b ∷ v) (c ∷ w) (suc i) h = above_mixed m v w i (omega arith)

pub mixed_agrees : (m : ℕ) (v w : List Bool) → Agree m (mixed m v w) v
mixed_agrees m v w x low high = below_mixed m v w (x - 1) (omega arith)

-- values of more variables meet only what values of these meet
pub unmet_over_more : (m : ℕ) (formula : Problem) → AllWithin m formula.constraints → Unmet (over m formula) → Unmet formula
unmet_over_more m formula within unmet v met =
    unmet (mixed m v []) (record { one_each = length-mixed m v; all_met = all_agree m (mixed m v []) v (mixed_agrees m v []) formula.constraints within ∙ met.all_met })
