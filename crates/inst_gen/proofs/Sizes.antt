-- No variable of a planted instance is above its number of variables.
use Rattle.std.proofs.Common.{◌≡◌, refl, ap, ◌∙◌, ℕ, zero, suc, ◌+◌, ◌*◌, ◌/◌, ◌<◌, ◌≤◌, Bool, true, false, cond, max, List, [], ◌∷◌, ◌++◌, map, flat_map, fold, get_or, arith}
use Rattle.std.specs.List.{range_with_len, AllByRecursion}
use Rattle.cx_base.specs.Literals.{Literal, negate}
use Rattle.cx_base.specs.Problem.{literals_of, greatest_variable, clause_met}
use Rattle.cx_base.specs.declared.constraint.Constraint.{Constraint}
use Rattle.cx_base.specs.declared.constraint.Constraint.TheVariants.{Clause, Parity}
use Rattle.inst_gen.specs.declared.kind.InstanceKind.{InstanceKind}
use Rattle.inst_gen.specs.declared.kind.InstanceKind.TheVariants.{Even, Odd}
use Rattle.inst_gen.specs.Planting.{planted_parity, parities_of, literal_of, planted_clause, clauses_of, met_part, unmet_part, instance_of}

-- no variable of the literals is above n
abbrev pub AreUpTo : ℕ → List Literal → Type 0
AreUpTo n lits = AllByRecursion (λ l. l.variable ≤ n) lits

-- of each list
abbrev pub AllUpTo : ℕ → List (List Literal) → Type 0
AllUpTo n lists = AllByRecursion (AreUpTo n) lists

pub all_below : {X : Type 0} (P : X → Type 0) (f : ℕ → X) (a m : ℕ) → ((k : ℕ) → k < a + m → P (f k)) → AllByRecursion P (map f (range_with_len a m))
all_below P f a zero h = tt
all_below P f a (suc m) h = (h a (omega arith), all_below P f (a + 1) m (λ k lt. h k (omega arith)))

pub append_all : {X : Type 0} (P : X → Type 0) (xs ys : List X) → AllByRecursion P xs → AllByRecursion P ys → AllByRecursion P (xs ++ ys)
append_all P [] ys h g = g
append_all P (x ∷ xs) ys h g = (h.0, append_all P xs ys h.1 g)

flat_all : (n : ℕ) (lists : List (List Literal)) → AllUpTo n lists → AreUpTo n (flat_map (λ lits. lits) lists)
flat_all n [] h = tt
flat_all n (lits ∷ lists) h = append_all (λ l. l.variable ≤ n) lits (flat_map (λ x. x) lists) h.0 (flat_all n lists h.1)

up_to_more : (n : ℕ) (lits : List Literal) → AreUpTo n lits → AreUpTo (n + 1) lits
up_to_more n [] h = tt
up_to_more n (l ∷ lits) h = (let k = h.0 in omega arith, up_to_more n lits h.1)

all_more : (n : ℕ) (lists : List (List Literal)) → AllUpTo n lists → AllUpTo (n + 1) lists
all_more n [] h = tt
all_more n (lits ∷ lists) h = (up_to_more n lits h.0, all_more n lists h.1)

-- ---- what is drawn

pub parity_up_to : (values : List Bool) (n i first second : ℕ) → 2 ≤ i → i ≤ n → AreUpTo n (planted_parity values i first second)
unfolding planted_parity
parity_up_to values n i first second low high = (high, (omega arith, (omega arith, tt)))

pub parities_up_to : (values : List Bool) (n : ℕ) (ws : List ℕ) → AllUpTo n (parities_of values (n / 4) ws)
unfolding parities_of
parities_up_to values n ws = all_below (AreUpTo n) (λ k. planted_parity values (4 * k + 4) (get_or ws (2 * k) 0) (get_or ws (2 * k + 1) 0)) 0 (n / 4)
    (λ k lt. parity_up_to values n (4 * k + 4) (get_or ws (2 * k) 0) (get_or ws (2 * k + 1) 0) (omega arith) (omega arith))

literal_up_to : (n w : ℕ) → 1 ≤ n → (literal_of n w).variable ≤ n
unfolding literal_of
literal_up_to n w h = omega arith

clause_up_to : (values : List Bool) (n : ℕ) (a b c : Literal) → a.variable ≤ n → b.variable ≤ n → c.variable ≤ n → AreUpTo n (planted_clause values a b c)
unfolding planted_clause
clause_up_to values n a b c ha hb hc = elim (clause_met values (a ∷ b ∷ c ∷ [])) as (λ t. AreUpTo n (cond t (a ∷ b ∷ c ∷ []) (negate a ∷ b ∷ c ∷ []))) [
  | true ↦ (ha, (hb, (hc, tt)))
  | false ↦ (ha, (hb, (hc, tt)))
]

pub clauses_up_to : (values : List Bool) (n count : ℕ) (ws : List ℕ) → 1 ≤ n → AllUpTo n (clauses_of values n count ws)
unfolding clauses_of
clauses_up_to values n count ws h = all_below (AreUpTo n) (λ k. planted_clause values (literal_of n (get_or ws (3 * k) 0)) (literal_of n (get_or ws (3 * k + 1) 0)) (literal_of n (get_or ws (3 * k + 2) 0))) 0 count
    (λ k lt. clause_up_to values n _ _ _ (literal_up_to n (get_or ws (3 * k) 0) h) (literal_up_to n (get_or ws (3 * k + 1) 0) h) (literal_up_to n (get_or ws (3 * k + 2) 0) h))

-- ---- whole constraints

ConstraintsUpTo : ℕ → List Constraint → Type 0
ConstraintsUpTo n cs = AllByRecursion (λ c. AreUpTo n (literals_of c)) cs

parities_as : (n : ℕ) (lists : List (List Literal)) → AllUpTo n lists → AllByRecursion (λ c. AreUpTo n (literals_of c)) (map Parity lists)
parities_as n [] h = tt
parities_as n (lits ∷ lists) h = (h.0, parities_as n lists h.1)

clauses_as : (n : ℕ) (lists : List (List Literal)) → AllUpTo n lists → AllByRecursion (λ c. AreUpTo n (literals_of c)) (map Clause lists)
clauses_as n [] h = tt
clauses_as n (lits ∷ lists) h = (h.0, clauses_as n lists h.1)

met_up_to : (n : ℕ) (ps cs : List (List Literal)) → AllUpTo n ps → AllUpTo n cs → AllByRecursion (λ c. AreUpTo n (literals_of c)) (met_part ps cs)
met_up_to n ps cs h g = append_all (λ c. AreUpTo n (literals_of c)) (map Parity ps) (map Clause cs) (parities_as n ps h) (clauses_as n cs g)

unmet_up_to : (n : ℕ) (ps : List (List Literal)) → 4 ≤ n → AllUpTo n ps → AllByRecursion (λ c. AreUpTo (n + 1) (literals_of c)) (unmet_part (n + 1) ps)
unmet_up_to n ps h g =
    let here : n + 1 ≤ n + 1 = omega arith in
    let one : 1 ≤ n + 1 = omega arith in
    let two : 2 ≤ n + 1 = omega arith in (
      append_all (λ l. l.variable ≤ n + 1) (flat_map (λ x. x) ps) _ (flat_all (n + 1) ps (all_more n ps g)) (here, tt),
      ((here, (one, (two, tt))), ((here, (one, (two, tt))), ((here, (one, (two, tt))), ((here, (one, (two, tt))), tt)))),
    )

fold_stays : (n : ℕ) (xs : List ℕ) → AllByRecursion (λ x. x ≤ n) xs → fold max n xs ≡ n
fold_stays n [] h = refl
fold_stays n (x ∷ xs) h = (let k = h.0 in let e : max n x ≡ n = omega arith in ap (λ m. fold max m xs) e) ∙ fold_stays n xs h.1

variables_all : (n : ℕ) (lits : List Literal) → AreUpTo n lits → AllByRecursion (λ x. x ≤ n) (map (λ l. l.variable) lits)
variables_all n [] h = tt
variables_all n (l ∷ lits) h = (h.0, variables_all n lits h.1)

literals_all : (n : ℕ) (cs : List Constraint) → AllByRecursion (λ c. AreUpTo n (literals_of c)) cs → AreUpTo n (flat_map literals_of cs)
literals_all n [] h = tt
literals_all n (c ∷ cs) h = append_all (λ l. l.variable ≤ n) (literals_of c) (flat_map literals_of cs) h.0 (literals_all n cs h.1)

greatest_is : (n : ℕ) (cs : List Constraint) → AllByRecursion (λ c. AreUpTo n (literals_of c)) cs → greatest_variable n cs ≡ n
greatest_is n cs h = fold_stays n (map (λ l. l.variable) (flat_map literals_of cs)) (variables_all n (flat_map literals_of cs) (literals_all n cs h))

constraints_more : (n : ℕ) (cs : List Constraint) → AllByRecursion (λ c. AreUpTo n (literals_of c)) cs → AllByRecursion (λ c. AreUpTo (n + 1) (literals_of c)) cs
constraints_more n [] h = tt
constraints_more n (c ∷ cs) h = (up_to_more n (literals_of c) h.0, constraints_more n cs h.1)

pub instance_greatest : (kind : InstanceKind) (n : ℕ) (ps cs : List (List Literal)) → 4 ≤ n → AllUpTo n ps → AllUpTo n cs
    → greatest_variable (instance_of kind n ps cs).variables (instance_of kind n ps cs).constraints ≡ (instance_of kind n ps cs).variables
instance_greatest Even n ps cs low h g = greatest_is n (met_part ps cs) (met_up_to n ps cs h g)
instance_greatest Odd n ps cs low h g =
    greatest_is (n + 1) (met_part ps cs ++ unmet_part (n + 1) ps)
    (append_all (λ c. AreUpTo (n + 1) (literals_of c)) (met_part ps cs) (unmet_part (n + 1) ps) (constraints_more n (met_part ps cs) (met_up_to n ps cs h g)) (unmet_up_to n ps low h))
