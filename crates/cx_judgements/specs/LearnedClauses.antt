-- Where a marked log learns its clauses: by places among its events, and with what is live there.
use Rattle.std.specs.Prelude.{◌≡◌, ℕ, ◌≤◌, Bool, true, List, ◌∷◌, ◌++◌, fold, length, Option, Some, None, is_some, IsTrue, IsFalse, ◌⊎◌}
use Rattle.std.specs.List.{list_any}
use Rattle.cx_base.specs.Literals.{Literal}
use Rattle.cx_base.specs.Problem.{Problem}
use Rattle.cx_base.specs.Assumptions.{is_ending}
use Rattle.cx_base.specs.Integers.{literals}
use Rattle.cx_base.specs.Events.{steps_of}
use Rattle.cx_base.specs.declared.steps.LogStep.{LogStep}
use Rattle.cx_base.specs.declared.steps.LogStep.TheVariants.{Original, OriginalParity, Clause, ClauseWithHints, Parity, ClauseOfParity, ParityOfClauses, Delete, DeleteParity, Final, FinalParity, MoveClauses, MoveParities}
use Rattle.cx_base.specs.declared.steps.LogEvent.{LogEvent}
use Rattle.cx_base.specs.declared.steps.LogEvent.TheVariants.{Step, Conflict}
use Rattle.cx_semantics.specs.Chain.{is_inside}
use Rattle.cx_semantics.specs.Fresh.{Fresh, IsLive, is_tautology}
use Rattle.cx_semantics.specs.LogRules.{after_log_step}
use Rattle.cx_semantics.specs.Marked.{KeepsFormula}
use Rattle.cx_semantics.specs.Tables.{Table, Tables, no_tables}

-- the clauses and parities that are live after these events
abbrev pub live_after : List LogEvent → Tables
live_after events = fold after_log_step no_tables (steps_of events)

-- the clause that an `a` step adds
abbrev pub added_clause : LogStep → Option (List Literal)
added_clause (Clause n lits) = Some (literals lits)
added_clause (ClauseWithHints n lits hints) = Some (literals lits)
added_clause (Original n lits) = None
added_clause (OriginalParity n lits) = None
added_clause (Parity n lits sources) = None
added_clause (ClauseOfParity n lits source) = None
added_clause (ParityOfClauses n lits sources) = None
added_clause (Delete n lits) = None
added_clause (DeleteParity n lits) = None
added_clause (Final n lits) = None
added_clause (FinalParity n lits) = None
added_clause (MoveClauses moves) = None
added_clause (MoveParities moves) = None

-- a mark, or an `a` step
abbrev pub is_mark_or_added : LogEvent → Bool
is_mark_or_added (Step step) = is_some (added_clause step)
is_mark_or_added (Conflict k) = true

-- after the events in front an `a` step adds the clause
pub record AddsAfter (events front : List LogEvent) (lits : List Literal) : Type 0 where
  pub step : LogStep
  pub later : List LogEvent
  pub split : events ≡ front ++ Step step ∷ later
  pub adds : added_clause step ≡ Some lits

-- the last mark of these events is that of conflict k, and no `a` step comes after it
pub record AwaitsClauseOf (k : ℕ) (events : List LogEvent) : Type 0 where
  pub before : List LogEvent
  pub since : List LogEvent
  pub split : events ≡ before ++ Conflict k ∷ since
  pub none_yet : IsFalse (list_any is_mark_or_added since)

-- The clause learned from conflict k is the first that an `a` step adds after its mark, before the next one. It has a literal and
-- is fresh among the clauses that are live there.
pub record LearnsFrom (k : ℕ) (events : List LogEvent) : Type 0 where
  pub front : List LogEvent
  pub lits : List Literal
  pub added : AddsAfter events front lits
  pub awaited : AwaitsClauseOf k front
  pub has_literal : 1 ≤ length lits
  pub fresh : Fresh (live_after front).clauses lits

-- the literals are a part of a live clause that is no tautology
abbrev pub IsPart : Table → List Literal → Type 0
IsPart table lits = (clause : List Literal) × IsLive table clause × IsTrue (is_inside lits clause) × IsFalse (is_tautology clause)

-- the clause ends the log, is one literal that is not fresh, or is a part of a live one
abbrev pub IsNotCounted : Problem → Table → List Literal → Type 0
IsNotCounted formula table lits = IsTrue (is_ending formula.constraints lits) ⊎ (((length lits ≡ 1) × ¬ Fresh table lits) ⊎ IsPart table lits)

-- n clauses are learned at n places, each fresh there, and no other clause that an `a` step adds is news
pub record LearnsClauses (formula : Problem) (events : List LogEvent) (n : ℕ) : Type 0 where
  -- each of the conflicts 1 to n has its clause
  pub each : (k : ℕ) → 1 ≤ k → k ≤ n → LearnsFrom k events
  -- at a place of its own
  pub apart : (front : List LogEvent) (j k : ℕ) → AwaitsClauseOf j front → AwaitsClauseOf k front → j ≡ k
  -- each other added clause is one that no conflict counts
  pub no_other : (front : List LogEvent) (lits : List Literal) → AddsAfter events front lits
      → ((k : ℕ) × AwaitsClauseOf k front) ⊎ IsNotCounted formula (live_after front).clauses lits
  -- at each mark the formula's clauses are kept
  pub kept : (front later : List LogEvent) (k : ℕ) → events ≡ front ++ Conflict k ∷ later → KeepsFormula formula (live_after front).clauses
