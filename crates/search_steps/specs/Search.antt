-- The search as a calculus: what it holds, and what holds of it between two steps.
use Rattle.std.specs.Prelude.{◌≡◌, ℕ, suc, ◌+◌, ◌≤◌, ◌<◌, ◌-◌, Bool, false, List, [], ◌∷◌, ◌++◌, length, Some, IsTrue, IsFalse, Contains, filter_map, ◌⊎◌}
use Rattle.std.specs.List.{range_with_len}
use Rattle.cx_base.specs.Literals.{Literal, negate, same_literal}
use Rattle.cx_base.specs.Problem.{Problem}
use Rattle.cx_base.specs.declared.steps.LogEvent.{LogEvent}
use Rattle.cx_base.specs.declared.steps.LogEvent.TheVariants.{Conflict}
use Rattle.cx_base.specs.Assumptions.{clashes}
use Rattle.cx_semantics.specs.Chain.{has_literal}
use Rattle.cx_semantics.specs.Judging.{Runs}
use Rattle.cx_semantics.specs.LogRules.{log_calculus}
use Rattle.cx_base.specs.Events.{steps_of}
use Rattle.cx_semantics.specs.Marked.{Moment, first_moment, after_event, EventsFit, mark_of, BeginsWithOriginals}
use Rattle.cx_semantics.specs.Tables.{Tables, get, no_tables}
use Rattle.search_steps.specs.Trail.{Entry, Why, decided, held, back_to, level_of, IsTrail}
use Rattle.search_steps.specs.Quiet.{QuietBelow, IsOfParities, IsAsserting}
use Rattle.search_steps.specs.Hints.{AreHinted}
use Rattle.search_steps.specs.Schedule.{IsScheduledIn}
use Rattle.search_steps.specs.Covers.{AreCovered, ArePlain, rows_in}

-- the events of the log so far and the moment that they lead to; the trail; how many of the lowest levels are known to be quiet; the counted conflicts
pub record Search : Type 0 where
  pub events : List LogEvent
  pub moment : Moment
  pub trail : List Entry
  pub quiet_levels : ℕ
  pub conflicts : ℕ

-- no assumptions clash, the log's steps and hints are right so far, its events fit, and learned clauses are deleted on schedule, or by a tidying where the search tidies
pub record IsLog (tidies : Bool) (formula : Problem) (events : List LogEvent) (moment : Moment) (conflicts : ℕ) : Type 0 where
  pub apart : IsFalse (clashes formula.constraints)
  pub runs : Runs (log_calculus formula) no_tables (steps_of events) moment.tables
  pub fits : EventsFit formula first_moment events moment
  pub marks : filter_map mark_of events ≡ range_with_len 1 conflicts
  pub originals : BeginsWithOriginals formula.constraints events
  pub scheduled : IsScheduledIn tidies events
  pub hinted : AreHinted events

-- What the trail needs of the tables: reasons are live, the quiet levels are quiet still, and the engine's parities are live under the first ids.
pub record Serves (formula : Problem) (parities : List (List Literal)) (tables : Tables) (trail : List Entry) (levels : ℕ) : Type 0 where
  pub stands : IsTrail tables.clauses (IsOfParities formula.variables parities) trail
  pub quiet : QuietBelow formula.variables parities tables.clauses trail levels
  pub keeps_parities : (parity : List Literal) → Contains parities parity → (n : ℕ) × (n ≤ length parities) × (get tables.parities n ≡ Some parity)

-- what holds of the search between two steps: each clause of the formula is a tautology or has a live one inside it, and no learned one is a tautology
pub record IsSearchIn (tidies : Bool) (formula : Problem) (parities : List (List Literal)) (s : Search) : Type 0 where
  pub log : IsLog tidies formula s.events s.moment s.conflicts
  pub serves : Serves formula parities s.moment.tables s.trail s.quiet_levels
  pub covered : AreCovered formula s.moment.tables.clauses (rows_in s.moment)
  pub plain : ArePlain s.moment.tables.clauses s.moment.learned

-- so it is with a search that never tidies
abbrev pub IsSearch : Problem → List (List Literal) → Search → Type 0
IsSearch formula parities s = IsSearchIn false formula parities s

-- before a mark: no clause is owed, and nothing temporary is left from before the last mark
pub record IsServed (s : Search) : Type 0 where
  pub served : IsFalse s.moment.awaits
  pub no_old_clauses : s.moment.old_clauses ≡ []
  pub no_old_sums : s.moment.old_sums ≡ []

-- before a decision and a restart: no clause is owed, nothing temporary is left, and each level below the current one is quiet
pub record IsTidy (s : Search) : Type 0 where
  pub served : IsFalse s.moment.awaits
  pub no_old_clauses : s.moment.old_clauses ≡ []
  pub no_new_clauses : s.moment.new_clauses ≡ []
  pub no_old_sums : s.moment.old_sums ≡ []
  pub no_new_sums : s.moment.new_sums ≡ []
  pub levels : s.quiet_levels ≡ level_of s.trail

-- ---- the steps
abbrev pub told : Search → LogEvent → Search
told s event = record s { events = s.events ++ event ∷ []; moment = after_event s.moment event }

abbrev pub decided_on : Search → Literal → Search
decided_on s l = record s { trail = record { literal = l; level = suc (level_of s.trail); why = decided } ∷ s.trail; quiet_levels = suc (level_of s.trail) }

abbrev pub forced_on : Search → Literal → Why → Search
forced_on s l why = record s { trail = record { literal = l; level = level_of s.trail; why = why } ∷ s.trail }

abbrev pub jumped : Search → ℕ → Search
jumped s back = record s { trail = back_to back s.trail; quiet_levels = back }

abbrev pub marked : Search → Search
marked s = record (told s (Conflict (s.conflicts + 1))) { conflicts = s.conflicts + 1 }

-- A learned clause: asserting above its back level, which is below the current one and where it has another literal that was open before; or it has no other.
pub record IsLearnedOf (trail : List Entry) (back : ℕ) (clause : List Literal) (l : Literal) : Type 0 where
  pub lower : back < level_of trail
  pub asserting : IsAsserting trail back clause l
  pub second : (back ≡ 0) ⊎ ((m : Literal) × IsTrue (has_literal clause m) × IsFalse (same_literal l m) × IsFalse (has_literal (held (back - 1) trail) (negate m)))

-- the search with another trail
abbrev pub with_trail : Search → List Entry → Search
with_trail s es = record s { trail = es }
