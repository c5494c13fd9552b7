-- The ids that a log of `solve` uses: low enough that no reader runs out of them.
use Rattle.std.specs.Prelude.{ℕ, ◌≤◌, List, [], ◌∷◌, max, ⊤}
use Rattle.cx_base.specs.declared.steps.LogStep.{LogStep}
use Rattle.cx_base.specs.declared.steps.LogStep.TheVariants.{Original, OriginalParity, Clause, ClauseWithHints, Parity, ClauseOfParity, ParityOfClauses, Delete, DeleteParity, Final, FinalParity, MoveClauses, MoveParities}
use Rattle.cx_base.specs.declared.steps.LogEvent.{LogEvent}
use Rattle.cx_semantics.specs.Moves.{new_ids}
use Rattle.cx_base.specs.declared.steps.LogEvent.TheVariants.{Step, Conflict}

-- the greatest of some ids
abbrev pub greatest : List ℕ → ℕ
greatest [] = 0
greatest (n ∷ ns) = max n (greatest ns)

-- the id that a step adds, deletes or names as left at the end, or the greatest one that it moves something to
abbrev pub id_of : LogStep → ℕ
id_of (Original n lits) = n
id_of (OriginalParity n lits) = n
id_of (Clause n lits) = n
id_of (ClauseWithHints n lits hints) = n
id_of (Parity n lits sources) = n
id_of (ClauseOfParity n lits source) = n
id_of (ParityOfClauses n lits sources) = n
id_of (Delete n lits) = n
id_of (DeleteParity n lits) = n
id_of (Final n lits) = n
id_of (FinalParity n lits) = n
id_of (MoveClauses moves) = greatest (new_ids moves)
id_of (MoveParities moves) = greatest (new_ids moves)

-- no id passes this one
abbrev pub highest_id : ℕ
highest_id = 2000000000000000000

abbrev pub HasLowId : LogEvent → Type 0
HasLowId (Step step) = id_of step ≤ highest_id
HasLowId (Conflict k) = ⊤
