-- What a tidying takes of a search, and what it leaves of it.
use Rattle.std.specs.Prelude.{◌≡◌, ℕ, ◌+◌, ◌<◌, ◌≤◌, Bool, true, false, List, [], ◌∷◌, ◌++◌, length, filter, Option, Some, None}
use Rattle.cx_base.specs.Literals.{Literal}
use Rattle.cx_base.specs.Problem.{Problem}
use Rattle.cx_base.specs.declared.steps.LogEvent.{LogEvent}
use Rattle.cx_semantics.specs.Chain.{negations}
use Rattle.cx_semantics.specs.Tables.{Table}
use Rattle.clause_arena.specs.Clauses.{ArenaState, learned_in}
use Rattle.clause_tidy.specs.Taking.{Lists}
use Rattle.clause_tidy.specs.declared.outcome.TidyOf.{TidyOf}
use Rattle.clause_tidy.specs.declared.outcome.TidyOf.TheVariants.{Done, Ended}
use Rattle.parity_engine.specs.State.{State}
use Rattle.watch_lists.specs.Anew.{AreWatchable}
use Rattle.search_steps.specs.Holding.{AreTold}
use Rattle.search_steps.specs.Schedule.{IsRestart, IsRestartAt, moment_after}
use Rattle.search_steps.specs.Search.{Search, IsSearchIn}
use Rattle.search_steps.specs.TidyLines.{AreTidyClauses}
use Rattle.search_steps.specs.Trail.{held, level_of}
use Rattle.tidy_rules.specs.Parts.{Tidied}
use Rattle.cdcl_search.specs.declared.state.SearchState.{SearchState}
use Rattle.cdcl_search.specs.Ties.{AreLearned, AreUnits, ClauseTies, CountTies, EngineTies, HasFewIds, IsNamedBy, IsWatched, LogTies, Ties, TrailTies, first_row_id}
use Rattle.cdcl_core.specs.Results.{RefutesIn}

-- the search restarts, and each literal of its trail has a unit clause
pub record IsAtRestart (c : SearchState) : Type 0 where
  pub tidies : c.tidies ≡ true
  pub level : c.trail.level ≡ 0
  pub units : length c.units.items ≡ length c.trail.entries
  pub restart : IsRestart c.conflicts

-- the search is at level 0, at its restart of this number
pub record IsAtRestartOf (number : ℕ) (c : SearchState) : Type 0 where
  pub level : c.trail.level ≡ 0
  pub due : IsRestartAt number c.conflicts

-- some search of the calculus fits what the code holds, whatever it watches
abbrev pub StandsUnwatched : Problem → SearchState → State → Option (List LogEvent) → Type 0
StandsUnwatched formula c e told = (s : Search) × IsSearchIn c.tidies formula e.parities s × AreTold told s.events × Ties formula c e [] s

-- ---- the units that arose
-- a unit that waits is the live clause of its id, over the formula's variables
pub record IsWaitingUnit (formula : Problem) (table : Table) (next : ℕ) (l : Literal) (n : ℕ) : Type 0 where
  pub named : IsNamedBy table (l ∷ []) n
  pub low : n < next
  pub within : (1 ≤ l.variable) × (l.variable ≤ formula.variables)

-- What the code holds at level 0 is what the search of the calculus holds, once these units are true as well.
pub record TiesBeside (formula : Problem) (c : SearchState) (e : State) (units : List Literal) (ids : List ℕ) (s : Search) : Type 0 where
  pub log : LogTies c.tidies formula e.parities c.next (first_row_id c.next) [] s
  pub clauses : ClauseTies c.tidies formula s.moment.tables.clauses c.next c.arena c.tidy_below (units ++ held 0 s.trail)
  pub waiting : (l : Literal) (n : ℕ) → Lists units ids l n → IsWaitingUnit formula s.moment.tables.clauses c.next l n
  pub learned : AreLearned c.arena s.moment.learned
  pub trail : TrailTies formula s.trail c.trail c.order c.phases.items
  pub units_told : AreUnits s.moment.tables.clauses c.next c.trail s.trail c.units.items
  pub engine : EngineTies formula s.trail c.given e
  pub counts : CountTies c.next c.conflicts c.learned c.reductions s
  pub ids_few : HasFewIds formula c.next c.conflicts (length c.units.items)
  pub levels : s.quiet_levels ≡ level_of s.trail

-- some search of the calculus fits the code so
abbrev pub StandsBeside : Problem → SearchState → State → List Literal → List ℕ → Option (List LogEvent) → Type 0
StandsBeside formula c e units ids told = (s : Search) × IsSearchIn c.tidies formula e.parities s × AreTold told s.events × TiesBeside formula c e units ids s

-- true: the search fits the code once these units are true as well; false: the log has ended by the empty clause
abbrev pub PutsUnit : Problem → SearchState → State → List Literal → List ℕ → Option (List LogEvent) → Bool → Type 0
PutsUnit formula c e units ids told true = StandsBeside formula c e units ids told
PutsUnit formula c e units ids told false = RefutesIn c.tidies formula (c.conflicts + 1) told []

-- a search that restarts still does; its arena is as it was, its watches fit where they did, and as many conflicts are counted
pub record StaysAtRestart (old new : SearchState) : Type 0 where
  pub restart : IsAtRestart new
  pub arena : new.arena ≡ old.arena
  pub watched : IsWatched old.watches old.arena old.trail → IsWatched new.watches new.arena new.trail
  pub conflicts : new.conflicts ≡ old.conflicts
  pub variables : new.trail.variables ≡ old.trail.variables

-- ---- learned clauses
-- how many learned clauses the arena holds
abbrev pub learned_count : ArenaState → ℕ
learned_count a = length (filter learned_in a.clauses)

-- what came of a tidying: the search fits the code once the units are true as well and the learned clauses are counted, each clause can be watched, and the clauses are tidy; or the log has ended
abbrev pub TidiesSearch : Problem → SearchState → State → Option (List LogEvent) → TidyOf → Type 0
TidiesSearch formula c e told (Done units ids) = StandsBeside formula (record c { learned = learned_count c.arena }) e units ids told × (length ids ≡ length units) × AreWatchable formula.variables c.arena × Tidied c.arena units
TidiesSearch formula c e told (Ended lits) = RefutesIn c.tidies formula (c.conflicts + 1) told (negations lits)

-- where the log is told, its clauses with two different literals are tidy now
abbrev pub AreTidyNow : Option (List LogEvent) → Type 0
AreTidyNow None = Unit {0}
AreTidyNow (Some events) = AreTidyClauses (moment_after events).tables.clauses
