-- The steps of a row.
use Rattle.std.specs.Prelude.{◌≡◌, ℕ, ◌+◌, ◌≤◌, ℤ, List, [], ◌∷◌, length}
use Rattle.cx_base.specs.Literals.{Literal}
use Rattle.cx_base.specs.declared.constraint.Constraint.{Constraint}
use Rattle.cx_base.specs.declared.steps.LogEvent.{LogEvent}
use Rattle.cx_base.specs.declared.steps.LogEvent.TheVariants.{Step}
use Rattle.cx_base.specs.declared.steps.LogStep.{LogStep}
use Rattle.cx_base.specs.declared.steps.LogStep.TheVariants.{Parity, ClauseOfParity}
use Rattle.cdcl_search.specs.Tells.{IsId, AreIdsFrom}
use Rattle.cdcl_search.specs.Ties.{first_row_id}
use Rattle.cdcl_search.specs.declared.rows.RowIds.{RowIds}
use Rattle.cdcl_search.specs.declared.rows.RowSteps.{RowSteps}
use Rattle.cdcl_search.specs.declared.rows.RowSteps.TheVariants.{Alone, Summed}

-- so few constraints, and ids so low, that the next row after these has ids
pub record AreFew (constraints : List Constraint) (next : ℕ) (rows : List (List Literal)) : Type 0 where
  pub constraints_few : length constraints ≤ 4294967295
  pub room : AreIdsFrom (first_row_id next) (length rows)

-- the ids of the next row: this many constraints, and this many clauses of rows after the next id of a clause that stays
pub record AreNextIds (constraints next rows : ℕ) (ids : RowIds) : Type 0 where
  pub sum : ids.sum ≡ constraints + 1
  pub clause : ids.clause ≡ first_row_id next + rows
  pub proper : IsId ids.sum × IsId ids.clause

-- the sum of a row and its clause, under these ids
abbrev pub sum_and_clause_events : ℕ → List ℤ → List ℕ → ℕ → List ℤ → List LogEvent
sum_and_clause_events k parity sources n clause = Step (Parity k parity sources) ∷ Step (ClauseOfParity n clause k) ∷ []

-- the steps of a row, one after another
abbrev pub steps_in : RowSteps → List LogStep
steps_in (Alone step) = step ∷ []
steps_in (Summed steps) = steps.items
