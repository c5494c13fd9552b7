-- Values that begin alike meet the same constraints over their first variables.
use Rattle.std.proofs.Common.{◌≡◌, refl, sym, ◌∙◌, ℕ, zero, suc, ◌+◌, ◌-◌, ◌<◌, ◌≤◌, Bool, true, false, cond, ◌&&◌, ◌||◌, List, [], ◌∷◌, ◌++◌, map, filter, length, get_or, arith}
use Rattle.std.specs.List.{list_all, range_with_len, AllByRecursion}
use Rattle.std.specs.FinSet as set
use Rattle.cx_base.specs.Literals.{Literal, differ, value_of}
use Rattle.cx_base.specs.Parity.{normal_form}
use Rattle.cx_base.specs.Problem.{clause_met, parity_met, assumption_met, constraint_met, literals_of, AreWithin}
use Rattle.cx_base.specs.declared.constraint.Constraint.{Constraint}
use Rattle.cx_base.specs.declared.constraint.Constraint.TheVariants.{Clause, Parity, Assume}
use Rattle.cx_base.proofs.Odd.{parity_met-cons}
use Rattle.xor_blast.specs.Pieces.{rising_variables}

-- the first n variables have the same values
abbrev pub AreAlike : ℕ → List Bool → List Bool → Type 0
AreAlike n v w = (x : ℕ) → 1 ≤ x → x ≤ n → value_of v x ≡ value_of w x

clause_alike : (n : ℕ) (v w : List Bool) (lits : List Literal) → AreAlike n v w → AreWithin n lits → clause_met v lits ≡ clause_met w lits
clause_alike n v w [] same h = refl
clause_alike n v w (l ∷ lits) same h = (λ i. differ l.negative (same l.variable h.0.0 h.0.1 i) || clause_alike n v w lits same h.1 i)

parity_alike : (n : ℕ) (v w : List Bool) (lits : List Literal) → AreAlike n v w → AreWithin n lits → parity_met v lits ≡ parity_met w lits
parity_alike n v w [] same h = refl
parity_alike n v w (l ∷ lits) same h =
    parity_met-cons v l lits ∙ (λ i. differ (differ l.negative (same l.variable h.0.0 h.0.1 i)) (parity_alike n v w lits same h.1 i)) ∙ sym (parity_met-cons w l lits)

assumption_alike : (n : ℕ) (v w : List Bool) (lits : List Literal) → AreAlike n v w → AreWithin n lits → assumption_met v lits ≡ assumption_met w lits
assumption_alike n v w [] same h = refl
assumption_alike n v w (l ∷ lits) same h = (λ i. differ l.negative (same l.variable h.0.0 h.0.1 i) && assumption_alike n v w lits same h.1 i)

constraint_alike : (n : ℕ) (v w : List Bool) (c : Constraint) → AreAlike n v w → AreWithin n (literals_of c) → constraint_met v c ≡ constraint_met w c
constraint_alike n v w (Clause lits) same h = clause_alike n v w lits same h
constraint_alike n v w (Parity lits) same h = parity_alike n v w lits same h
constraint_alike n v w (Assume lits) same h = assumption_alike n v w lits same h

pub all_alike : (n : ℕ) (v w : List Bool) (cs : List Constraint) → AreAlike n v w → AllByRecursion (λ c. AreWithin n (literals_of c)) cs → list_all (constraint_met v) cs ≡ list_all (constraint_met w) cs
all_alike n v w [] same h = refl
all_alike n v w (c ∷ cs) same h = (λ i. constraint_alike n v w c same h.0 i && all_alike n v w cs same h.1 i)

filtered_alike : (p f g : ℕ → Bool) (k m : ℕ) → ((x : ℕ) → k ≤ x → x < k + m → f x ≡ g x) → map f (filter p (range_with_len k m)) ≡ map g (filter p (range_with_len k m))
filtered_alike p f g k zero same = refl
filtered_alike p f g k (suc m) same = cases (p k) (filtered_alike p f g (k + 1) m (λ x low high. same x (omega arith) (omega arith)))
  where
    cases : (b : Bool) → map f (filter p (range_with_len (k + 1) m)) ≡ map g (filter p (range_with_len (k + 1) m))
        → map f (cond b (k ∷ filter p (range_with_len (k + 1) m)) (filter p (range_with_len (k + 1) m))) ≡ map g (cond b (k ∷ filter p (range_with_len (k + 1) m)) (filter p (range_with_len (k + 1) m)))
    cases true e = (λ i. same k (omega arith) (omega arith) i ∷ e i)
    cases false e = e

pub rising_alike : (n : ℕ) (v w : List Bool) (lits : List Literal) → AreAlike n v w → map (value_of v) (rising_variables n lits) ≡ map (value_of w) (rising_variables n lits)
rising_alike n v w lits same = filtered_alike (set.contains (normal_form lits).variables) (value_of v) (value_of w) 1 n (λ x low high. same x low (omega arith))

front_value : (v u : List Bool) (i : ℕ) → i < length v → get_or v i false ≡ get_or (v ++ u) i false
front_value [] u i less = absurd (omega arith)
front_value (b ∷ v) u zero less = refl
front_value (b ∷ v) u (suc i) less = front_value v u i (omega arith)

pub front_alike : (n : ℕ) (v u : List Bool) → length v ≡ n → AreAlike n v (v ++ u)
front_alike n v u long x low high = front_value v u (x - 1) (omega arith)
