-- The beginning of a log: a step for each constraint in order.
use Rattle.std.specs.Prelude.{◌≡◌, ℕ, false, ◌≤◌, ◌<◌, List, [], length, None, Some, Contains, filter_map}
use Rattle.cx_base.specs.Literals.{Literal}
use Rattle.cx_base.specs.Problem.{Problem, clauses_of, parities_of}
use Rattle.cx_base.specs.declared.constraint.Constraint.{Constraint}
use Rattle.cx_semantics.specs.Judging.{Runs}
use Rattle.cx_semantics.specs.LogRules.{log_calculus}
use Rattle.cx_base.specs.Events.{steps_of}
use Rattle.cx_semantics.specs.Marked.{first_moment, EventsFit, mark_of, original_events}
use Rattle.cx_semantics.specs.Tables.{Table, get, no_tables}
use Rattle.search_steps.specs.Search.{Search, IsTidy}

abbrev pub start : Search
start = record { events = []; moment = first_moment; trail = []; quiet_levels = 0; conflicts = 0 }

-- the lists are under the first ids, and the ids above are free
pub record HasFirst (table : Table) (lists : List (List Literal)) : Type 0 where
  pub live : (lits : List Literal) → Contains lists lits → (n : ℕ) × (n ≤ length lists) × (get table n ≡ Some lits)
  pub free : (n : ℕ) → length lists < n → get table n ≡ None

-- The log has a step for each of the constraints taken so far, and nothing else.
pub record IsBegun (formula : Problem) (taken : List Constraint) (s : Search) : Type 0 where
  pub runs : Runs (log_calculus formula) no_tables (steps_of s.events) s.moment.tables
  pub fits : EventsFit formula first_moment s.events s.moment
  pub marks : filter_map mark_of s.events ≡ []
  pub originals : s.events ≡ original_events 1 1 taken
  pub clauses : HasFirst s.moment.tables.clauses (clauses_of taken)
  pub parities : HasFirst s.moment.tables.parities (parities_of taken)
  pub no_trail : s.trail ≡ []
  pub no_level : s.quiet_levels ≡ 0
  pub no_conflict : s.conflicts ≡ 0
  pub no_learned : s.moment.learned ≡ []
  pub no_reduction : s.moment.reductions ≡ 0
  pub not_reducing : s.moment.reduces ≡ false
  pub tidy : IsTidy s
