-- Formulas and their meaning.
use Rattle.std.specs.Prelude.{◌≡◌, ℕ, ◌+◌, ◌%◌, ◌≤◌, Bool, List, [], ◌∷◌, length, map, max, fold, flat_map, IsTrue, ◌==◌, Option, Some, None, if◌then◌else◌}
use Rattle.std.specs.List.{list_any, list_all, filter_map, count_by, AllByRecursion}
use Rattle.cx_base.specs.Literals.{Literal, literal_true}
use Rattle.cx_base.specs.declared.literal.TheConstants.{MAX_VARIABLE}
use Rattle.cx_base.specs.declared.constraint.Constraint.{Constraint}
use Rattle.cx_base.specs.declared.constraint.Constraint.TheVariants.{Clause, Parity, Assume}

-- a number of variables, and constraints in order
pub record Problem : Type 0 where
  pub variables : ℕ
  pub constraints : List Constraint

-- the literals of a constraint, in order and with repeats
abbrev pub literals_of : Constraint → List Literal
literals_of (Clause lits) = lits
literals_of (Parity lits) = lits
literals_of (Assume lits) = lits

-- each literal's variable is from 1 up to the number n
abbrev pub AreWithin : ℕ → List Literal → Type 0
AreWithin n lits = AllByRecursion (λ l. (1 ≤ l.variable) × (l.variable ≤ n)) lits

-- a number of variables within the limit, and no variable above it
abbrev pub IsWithinVariables : ℕ → List Constraint → Type 0
IsWithinVariables n constraints = (n ≤ MAX_VARIABLE) × AllByRecursion (λ c. AreWithin n (literals_of c)) constraints

-- the greatest of a number and the variables written
abbrev pub greatest_variable : ℕ → List Constraint → ℕ
greatest_variable n constraints = fold max n (map (λ l. l.variable) (flat_map literals_of constraints))

-- a clause is met where some literal is true
abbrev pub clause_met : List Bool → List Literal → Bool
clause_met values lits = list_any (literal_true values) lits

-- a parity is met where the number of places with a true literal is odd
abbrev pub parity_met : List Bool → List Literal → Bool
parity_met values lits = count_by (literal_true values) lits % 2 == 1

-- an assumption constraint is met where all its literals are true
abbrev pub assumption_met : List Bool → List Literal → Bool
assumption_met values lits = list_all (literal_true values) lits

abbrev pub constraint_met : List Bool → Constraint → Bool
constraint_met values (Clause lits) = clause_met values lits
constraint_met values (Parity lits) = parity_met values lits
constraint_met values (Assume lits) = assumption_met values lits

-- a value for each variable, and each constraint is met
pub record Meets (formula : Problem) (values : List Bool) : Type 0 where
  pub one_each : length values ≡ formula.variables
  pub all_met : IsTrue (list_all (constraint_met values) formula.constraints)

-- the number of the first constraint that is not met, the first having the number n
abbrev pub first_unmet : List Bool → ℕ → List Constraint → Option ℕ
first_unmet values n [] = None
first_unmet values n (c ∷ constraints) = if constraint_met values c then first_unmet values (n + 1) constraints else Some n

-- no values meet the formula
abbrev pub Unmet : Problem → Type 0
Unmet formula = (values : List Bool) → ¬ Meets formula values

-- the literals of a clause, and those of a parity
abbrev pub clause_in : Constraint → Option (List Literal)
clause_in (Clause lits) = Some lits
clause_in (Parity lits) = None
clause_in (Assume lits) = None

abbrev pub parity_in : Constraint → Option (List Literal)
parity_in (Clause lits) = None
parity_in (Parity lits) = Some lits
parity_in (Assume lits) = None

-- the formula's clauses in order, and its parities in order
unfoldable pub clauses_of : List Constraint → List (List Literal)
clauses_of constraints = filter_map clause_in constraints

unfoldable pub parities_of : List Constraint → List (List Literal)
parities_of constraints = filter_map parity_in constraints
