-- How many clauses and parities a log adds.
use Rattle.std.specs.Prelude.{ℕ, ◌+◌, ◌*◌, ◌≤◌, Bool, true, false, List, [], ◌∷◌, filter, length}
use Rattle.cx_base.specs.Problem.{Problem}
use Rattle.cx_base.specs.declared.steps.LogEvent.{LogEvent}
use Rattle.cx_base.specs.declared.steps.LogEvent.TheVariants.{Step, Conflict}
use Rattle.cx_base.specs.declared.steps.LogStep.{LogStep}
use Rattle.cx_base.specs.declared.steps.LogStep.TheVariants.{Original, OriginalParity, Clause, ClauseWithHints, Parity, ClauseOfParity, ParityOfClauses, Delete, DeleteParity, Final, FinalParity, MoveClauses, MoveParities}
use Rattle.search_steps.specs.Search.{Search}

-- whether the step puts a clause or a parity under an id
abbrev pub adds : LogStep → Bool
adds (Original n zs) = true
adds (OriginalParity n zs) = true
adds (Clause n zs) = true
adds (ClauseWithHints n zs hints) = true
adds (Parity n zs sources) = true
adds (ClauseOfParity n zs source) = true
adds (ParityOfClauses n zs sources) = true
adds (Delete n zs) = false
adds (DeleteParity n zs) = false
adds (Final n zs) = false
adds (FinalParity n zs) = false
adds (MoveClauses moves) = false
adds (MoveParities moves) = false

abbrev pub is_addition : LogEvent → Bool
is_addition (Step step) = adds step
is_addition (Conflict k) = false

-- the number of these steps
abbrev pub additions : List LogEvent → ℕ
additions events = length (filter is_addition events)

-- how many the reason of a row with these sources adds: its clause, and a sum unless it has one source
abbrev pub row_additions : List ℕ → ℕ
row_additions (source ∷ []) = 1
row_additions ids = 2

-- so many at most are in a log with this many marks
abbrev pub most_additions : Problem → ℕ → ℕ
most_additions formula marks = 4 * length formula.constraints + 7 * formula.variables + 9 + 2 * (formula.variables * marks) + 5 * marks

abbrev pub IsBounded : Problem → ℕ → List LogEvent → Type 0
IsBounded formula marks events = additions events ≤ most_additions formula marks

-- A clause for good takes the next id, and had at most one row told for it alone; for a mark at most one row more than variables was told; the others are the rows since the last mark. Of each row at most two were added.
abbrev pub HasFewAdditions : Problem → ℕ → ℕ → ℕ → Search → Type 0
HasFewAdditions formula next first rows s = additions s.events ≤ length formula.constraints + next + 2 * first + 2 * rows + 2 * (formula.variables * s.conflicts) + 2 * s.conflicts
