-- Hints of added clauses that are right.
use Rattle.std.specs.Prelude.{◌≡◌, ℤ, pos, List, ◌∷◌, ◌++◌, map, reverse, ⊤}
use Rattle.cx_base.specs.Integers.{literals}
use Rattle.cx_base.specs.declared.steps.LogEvent.{LogEvent}
use Rattle.cx_base.specs.declared.steps.LogEvent.TheVariants.{Step}
use Rattle.cx_base.specs.declared.steps.LogStep.{LogStep}
use Rattle.cx_base.specs.declared.steps.LogStep.TheVariants.{Original, OriginalParity, Clause, ClauseWithHints, Parity, ClauseOfParity, ParityOfClauses, Delete, DeleteParity, Final, FinalParity, MoveClauses, MoveParities}
use Rattle.cx_semantics.specs.Tables.{Tables}
use Rattle.conflict_learn.specs.declared.learning.Resolved.{Resolved}
use Rattle.conflict_learn.specs.Learning.{ids_of}
pub use Rattle.tidy_rules.specs.Hints.{AreHintsFor, IsNamedBy}
use Rattle.search_steps.specs.Schedule.{moment_after}

-- a clause by a chain comes with hints that are right for it
abbrev pub IsHinted : Tables → LogStep → Type 0
IsHinted tables (Original n zs) = ⊤
IsHinted tables (OriginalParity n zs) = ⊤
IsHinted tables (Clause n zs) = ⊥
IsHinted tables (ClauseWithHints n zs hints) = AreHintsFor tables.clauses (literals zs) hints
IsHinted tables (Parity n zs sources) = ⊤
IsHinted tables (ClauseOfParity n zs source) = ⊤
IsHinted tables (ParityOfClauses n zs sources) = ⊤
IsHinted tables (Delete n zs) = ⊤
IsHinted tables (DeleteParity n zs) = ⊤
IsHinted tables (Final n zs) = ⊤
IsHinted tables (FinalParity n zs) = ⊤
IsHinted tables (MoveClauses moves) = ⊤
IsHinted tables (MoveParities moves) = ⊤

-- so it is with each step, after those before it
abbrev pub AreHinted : List LogEvent → Type 0
AreHinted events = (front : List LogEvent) (step : LogStep) (later : List LogEvent) → events ≡ front ++ Step step ∷ later → IsHinted (moment_after front).tables step

-- the ids of the clauses that were resolved, the last one's first
abbrev pub hints_from : List Resolved → List ℤ
hints_from resolved = map pos (ids_of (reverse resolved))
