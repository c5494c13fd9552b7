-- The places of the clauses and of the parities among a formula's constraints.
use Rattle.std.specs.Prelude.{◌≡◌, ℕ, List, [], ◌∷◌, Option}
use Rattle.std.specs.Option.{option_map}
use Rattle.std.specs.List.{filter_map, enumerate_from}
use Rattle.cx_base.specs.Literals.{Literal}
use Rattle.cx_base.specs.Problem.{clause_in, parity_in}
use Rattle.cx_base.specs.declared.constraint.Constraint.{Constraint}
use Rattle.cx_base.specs.declared.formula.ConstraintKind.{ConstraintKind}
use Rattle.cx_base.specs.declared.formula.ConstraintKind.TheVariants as kind

-- the places of those that are picked, in order, where the first constraint's place is n
abbrev pub places_from : (Constraint → Option (List Literal)) → ℕ → List Constraint → List ℕ
places_from pick n constraints = filter_map (λ e. option_map (λ lits. e.0) (pick e.1)) (enumerate_from n constraints)

pub record ArePlaces (clauses parities : List ℕ) (constraints : List Constraint) : Type 0 where
  pub of_clauses : clauses ≡ places_from clause_in 0 constraints
  pub of_parities : parities ≡ places_from parity_in 0 constraints

-- a place among the clauses, and among the parities, for a constraint of this kind
abbrev pub clause_place : ConstraintKind → ℕ → List ℕ
clause_place kind.Clause n = n ∷ []
clause_place kind.Parity n = []
clause_place kind.Assume n = []

abbrev pub parity_place : ConstraintKind → ℕ → List ℕ
parity_place kind.Clause n = []
parity_place kind.Parity n = n ∷ []
parity_place kind.Assume n = []
