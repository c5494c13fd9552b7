-- The log begins with the formula's constraints.
use Rattle.std.specs.Prelude.{◌≡◌, ℕ, List, length, take, Option, None}
use Rattle.cx_base.specs.Literals.{Literal}
use Rattle.cx_base.specs.Problem.{Problem, clauses_of, parities_of}
use Rattle.cx_base.specs.declared.constraint.Constraint.{Constraint}
use Rattle.cx_base.specs.declared.steps.LogEvent.{LogEvent}
use Rattle.cx_semantics.specs.Tables.{Table, get}
use Rattle.search_steps.specs.Holding.{AreTold}
use Rattle.search_steps.specs.Search.{Search}
use Rattle.search_steps.specs.Start.{IsBegun}
use Rattle.step_text.specs.declared.sink.Sink as sink
use Rattle.cdcl_search.specs.declared.logs.SearchLog.{SearchLog}
use Rattle.cdcl_search.specs.Logs.{told_in}
use Rattle.cdcl_search.specs.Ties.{AreNumbered}
use Rattle.cdcl_core.specs.declared.originals.ToldCounts.{ToldCounts}

-- the lists are under their numbers, from 1
pub record AreListedFromOne (table : Table) (lists : List (List Literal)) : Type 0 where
  pub numbered : AreNumbered table lists
  pub none_before : get table 0 ≡ None

-- the log has a step for each of the constraints taken so far, in order, and nothing else
abbrev pub HasBegun : Problem → List Constraint → Option (List LogEvent) → Type 0
HasBegun formula taken told = (s : Search) × IsBegun formula taken s × AreListedFromOne s.moment.tables.clauses (clauses_of taken) × AreListedFromOne s.moment.tables.parities (parities_of taken) × AreTold told s.events

-- n of the constraints are clauses, and k are parities
pub record AreCounted (taken : List Constraint) (n k : ℕ) : Type 0 where
  pub clauses : n ≡ length (clauses_of taken)
  pub parities : k ≡ length (parities_of taken)

-- the constraints before this place are told and counted
pub record HasTaken {L : Type 0} (m : sink.Ghosts L LogEvent) (log : SearchLog L) (place : ℕ) (counts : ToldCounts) : Type 0 where
  pub counted : AreCounted (take place log.formula.now.constraints) counts.clauses counts.parities
  pub begun : HasBegun log.formula.now (take place log.formula.now.constraints) (told_in m log)
