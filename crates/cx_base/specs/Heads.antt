-- Where a formula keeps its constraints: heads, and one list of literals.
use Rattle.std.specs.Prelude.{◌≡◌, ℕ, ◌+◌, ◌≤◌, ◌++◌, List, length, take, drop, map, max, fold, flat_map}
use Rattle.cx_base.specs.Problem.{literals_of}
use Rattle.cx_base.specs.declared.literal.TheConstants.{MAX_VARIABLE}
use Rattle.std.specs.List.{All}
use Rattle.cx_base.specs.Literals.{Literal}
use Rattle.cx_base.specs.declared.constraint.Constraint.{Constraint}
use Rattle.cx_base.specs.declared.constraint.Constraint.TheVariants as constraint
use Rattle.cx_base.specs.declared.formula.ConstraintKind.{ConstraintKind}
use Rattle.cx_base.specs.declared.formula.ConstraintKind.TheVariants as kind
use Rattle.cx_base.specs.declared.formula.ConstraintHead.{ConstraintHead}

abbrev pub of_kind : ConstraintKind → List Literal → Constraint
of_kind kind.Clause lits = constraint.Clause lits
of_kind kind.Parity lits = constraint.Parity lits
of_kind kind.Assume lits = constraint.Assume lits

-- the constraint of a head: its literals are len of the list from start on
abbrev pub stored : List Literal → ConstraintHead → Constraint
stored lits h = of_kind h.kind (take h.len (drop h.start lits))

abbrev pub AreInside : List Literal → List ConstraintHead → Type 0
AreInside lits heads = All (λ h. h.start + h.len ≤ length lits) heads

-- what a builder keeps: its heads cover the literals up to the closed ones, and the greatest variable is known
pub record IsDraft (largest closed : ℕ) (lits : List Literal) (heads : List ConstraintHead) : Type 0 where
  pub inside : All (λ h. h.start + h.len ≤ closed) heads
  pub reach : closed ≤ length lits
  pub whole : flat_map literals_of (map (stored lits) heads) ++ drop closed lits ≡ lits
  pub greatest : largest ≡ fold max 0 (map (λ l. l.variable) lits)
  pub few : largest ≤ MAX_VARIABLE
  pub positive : All (λ l. 1 ≤ l.variable) lits
