-- What a formula assumes, the clauses that end a proof under it, and assumptions that clash.
use Rattle.std.specs.Prelude.{ℕ, ◌<◌, ◌≤◌, ◌&&◌, ◌++◌, ◌∷◌, Bool, List, [], flat_map, IsTrue, IsFalse}
use Rattle.std.specs.List.{list_any, list_all, AllByRecursion}
use Rattle.cx_base.specs.Literals.{Literal, negate, positive_of, negative_of, same_literal}
use Rattle.cx_base.specs.Problem.{Problem, Unmet}
use Rattle.cx_base.specs.declared.constraint.Constraint.{Constraint}
use Rattle.cx_base.specs.declared.constraint.Constraint.TheVariants.{Clause, Parity, Assume}

-- the literals that a constraint assumes
abbrev pub assumed_by : Constraint → List Literal
assumed_by (Clause lits) = []
assumed_by (Parity lits) = []
assumed_by (Assume lits) = lits

-- the literals of the assumption constraints, in order of writing
unfoldable pub assumptions_of : List Constraint → List Literal
assumptions_of constraints = flat_map assumed_by constraints

-- whether the literal is assumed
abbrev pub assumes : List Constraint → Literal → Bool
assumes constraints l = list_any (same_literal l) (assumptions_of constraints)

-- An ending clause has only literals whose negation is assumed. The clause without literals is one.
abbrev pub is_ending : List Constraint → List Literal → Bool
is_ending constraints lits = list_all (λ l. assumes constraints (negate l)) lits

-- The assumptions clash where a literal is assumed together with its negation.
abbrev pub clashes : List Constraint → Bool
clashes constraints = list_any (λ l. assumes constraints (negate l)) (assumptions_of constraints)

-- whether the variable is assumed with both signs
abbrev pub is_assumed_both : List Constraint → ℕ → Bool
is_assumed_both constraints x = assumes constraints (positive_of x) && assumes constraints (negative_of x)

-- the least variable that is assumed with both signs
pub record IsClash (constraints : List Constraint) (x : ℕ) : Type 0 where
  pub both : IsTrue (is_assumed_both constraints x)
  pub least : (y : ℕ) → 1 ≤ y → y < x → IsFalse (is_assumed_both constraints y)

-- a constraint that is no assumption constraint
abbrev pub without_assumptions : Constraint → List Constraint
without_assumptions (Clause lits) = Clause lits ∷ []
without_assumptions (Parity lits) = Parity lits ∷ []
without_assumptions (Assume lits) = []

-- the clauses and the parities of the formula, and these literals as the one assumption constraint
abbrev pub assuming : Problem → List Literal → Problem
assuming formula lits = record { variables = formula.variables; constraints = flat_map without_assumptions formula.constraints ++ Assume lits ∷ [] }

-- each of the literals is assumed, and no values meet the clauses, the parities and these
pub record IsFailed (formula : Problem) (lits : List Literal) : Type 0 where
  pub assumed : AllByRecursion (λ l. IsTrue (assumes formula.constraints l)) lits
  pub unmet : Unmet (assuming formula lits)
