-- Clauses of rows.
use Rattle.std.specs.Prelude.{◌≡◌, ℕ, List, [], Option, Some, None, slice_index_or}
use Rattle.cx_base.specs.Literals.{Literal}
use Rattle.cx_base.specs.Integers.{integers_of}
use Rattle.cx_base.specs.declared.steps.LogEvent.{LogEvent}
use Rattle.cx_trail.specs.Sequence.{TrailState}
use Rattle.parity_engine.specs.State.{State, Named, OfNamed, named_at}
use Rattle.parity_engine.specs.Written.{IsWritten}
use Rattle.xor_reason.specs.ReasonClause.{IsReasonClause}
use Rattle.xor_reason.specs.declared.reason.ReasonOf.{ReasonOf}
use Rattle.search_steps.specs.LogSteps.{row_events}
use Rattle.cdcl_search.specs.Explaining.{Explains}
use Rattle.cdcl_search.specs.declared.row_clauses.RowClause.{RowClause}
use Rattle.cdcl_search.specs.declared.rows.RowIds.{RowIds}

-- the row as a parity
abbrev pub parity_of : RowClause → List Literal
parity_of m = slice_index_or m.parity.items 0 []

-- the parities that a named row is the sum of
abbrev pub sources_in : Option Named → List ℕ
sources_in None = []
sources_in (Some n) = n.sources

abbrev pub sources_at : State → ℕ → List ℕ
sources_at e row = sources_in (named_at e row)

-- the clause with all that explains it
abbrev pub reason_of : State → RowClause → ReasonOf
reason_of e m = record { parity = parity_of m; sources = sources_at e m.row; clause = m.clause }

-- the row is named, and its parity and sources explain its clause
pub record ExplainsRow (e : State) (t : TrailState) (m : RowClause) : Type 0 where
  pub named : Named
  pub is : named_at e m.row ≡ Some named
  pub written : IsWritten named.form (parity_of m)
  pub explains : Explains e.parities t (reason_of e m)

-- the clause is that of the row for the literal
pub record IsClauseOfRow (e : State) (t : TrailState) (row : ℕ) (l : Literal) (m : RowClause) : Type 0 where
  pub row_is : m.row ≡ row
  pub written : OfNamed e row (λ n. IsWritten n.form (parity_of m))
  pub clause : OfNamed e row (λ n. IsReasonClause t (Some l) n.form (parity_of m) m.clause)

-- the steps of the row, under these ids
abbrev pub row_clause_events : RowIds → State → RowClause → List LogEvent
row_clause_events ids e m = row_events ids.sum (integers_of (parity_of m)) (sources_at e m.row) ids.clause (integers_of m.clause)
