-- What a search holds while some unit clauses of the formula still wait.
use Rattle.std.specs.Prelude.{◌≡◌, ◌⊎◌, ℕ, ◌+◌, ◌≤◌, Bool, true, false, List, [], length, Option, Contains, IsFalse}
use Rattle.std.specs.List.{AllByRecursion}
use Rattle.cx_base.specs.Literals.{Literal}
use Rattle.cx_base.specs.Problem.{Problem, clauses_of}
use Rattle.cx_base.specs.declared.steps.LogEvent.{LogEvent}
use Rattle.cx_semantics.specs.Ids.{highest_id}
use Rattle.cx_semantics.specs.Fresh.{is_tautology}
use Rattle.clause_arena.specs.Clauses.{IsLive, id_at, literals_at}
use Rattle.search_policy.specs.Standing.{AllStand}
use Rattle.search_steps.specs.Holding.{AreTold}
use Rattle.search_steps.specs.Ids.{IsRanged, HasFreeSums}
use Rattle.search_steps.specs.Search.{Search, IsSearchIn}
use Rattle.search_steps.specs.Size.{additions}
use Rattle.search_steps.specs.Tied.{Mirrors}
use Rattle.search_steps.specs.Trail.{held}
use Rattle.step_text.specs.declared.sink.Sink as sink
use Rattle.cdcl_search.specs.declared.state.SearchState.{SearchState}
use Rattle.cdcl_search.specs.declared.logs.SearchLog.{SearchLog}
use Rattle.cdcl_search.specs.Logs.{told_in}
use Rattle.cdcl_search.specs.Ties.{IsHeld, AreUnits, IsWatched, HasOnlyRowClauses, stretches, first_row_id}
use Rattle.cdcl_core.specs.declared.filling.Single.{Single}
use Rattle.cdcl_core.specs.Filling.{clause_number, IsUnitClause, IsTakenAt}
use Rattle.cdcl_core.specs.Originals.{AreListedFromOne}
use Rattle.cdcl_core.specs.Results.{RefutesIn}

-- one of these unit clauses has the number
abbrev pub IsWaiting : List Single → ℕ → Type 0
IsWaiting units k = (u : Single) × Contains units u × (u.number ≡ k)

-- a unit clause of the formula, over its variables
abbrev pub IsSingle : Problem → Single → Type 0
IsSingle formula u = IsUnitClause formula u.number u.literal × (1 ≤ u.literal.variable) × (u.literal.variable ≤ formula.variables)

-- What the code holds at level 0 is what the search of the calculus holds, but these unit clauses are not covered yet. Just the formula and these parities were told, and there is no engine.
pub record TiesBut (formula : Problem) (engines : List (List Literal)) (c : SearchState) (waiting : List Single) (s : Search) : Type 0 where
  pub follows : Mirrors s.trail c.trail
  pub variables : c.trail.variables ≡ formula.variables
  pub level : c.trail.level ≡ 0
  pub ranged : IsRanged formula (first_row_id c.next) c.next (first_row_id c.next) s.trail s.moment
  pub next : c.next ≡ length (clauses_of formula.constraints) + 1
  pub room : c.next ≤ highest_id
  pub sums : HasFreeSums (length engines) s.moment
  pub parities : AreListedFromOne s.moment.tables.parities engines
  pub clauses : AreListedFromOne s.moment.tables.clauses (clauses_of formula.constraints)
  pub stored : (r : ℕ) → IsLive c.arena r → IsTakenAt formula (length (clauses_of formula.constraints)) c.arena r
  pub plain : c.tidies ≡ false → (r : ℕ) → IsLive c.arena r → IsFalse (is_tautology (literals_at c.arena r))
  pub apart : (r q : ℕ) → IsLive c.arena r → IsLive c.arena q → id_at c.arena r ≡ id_at c.arena q → r ≡ q
  pub covered : (k : ℕ) → 1 ≤ k → k ≤ length (clauses_of formula.constraints) → IsHeld c.tidies c.arena (held 0 s.trail) k (clause_number formula k) ⊎ IsWaiting waiting k
  pub singles : AllByRecursion (IsSingle formula) waiting
  pub units : AreUnits s.moment.tables.clauses c.next c.trail s.trail c.units.items
  pub every : length c.units.items ≡ length c.trail.entries
  pub watched : IsWatched c.watches c.arena c.trail
  pub stand : AllStand c.order c.trail
  pub phases : length c.phases.items ≡ formula.variables
  pub given : c.given ≡ 0
  pub conflicts : c.conflicts ≡ 0
  pub none_learned : c.learned ≡ 0
  pub not_reduced : c.reductions ≡ 0
  pub none_tidy : c.tidy_below ≡ 0
  pub no_conflict : s.conflicts ≡ 0
  pub no_learned : s.moment.learned ≡ []
  pub no_reduction : stretches s.moment ≡ 0
  pub no_level : s.quiet_levels ≡ 0
  pub few_additions : additions s.events ≤ length (clauses_of formula.constraints) + length formula.constraints
  pub served : HasOnlyRowClauses s (first_row_id c.next) 0

-- some search of the calculus over these parities fits the code but for these unit clauses, and its events are the sink's where that tells them
abbrev pub SearchStandsBut : Problem → List (List Literal) → SearchState → List Single → Option (List LogEvent) → Type 0
SearchStandsBut formula engines c waiting told = (s : Search) × IsSearchIn c.tidies formula engines s × AreTold told s.events × TiesBut formula engines c waiting s

-- true: the search fits the code but for these unit clauses; false: the log is ended, with no mark
abbrev pub PutsUnits : Problem → List (List Literal) → SearchState → List Single → Option (List LogEvent) → Bool → Type 0
PutsUnits formula engines c waiting told true = SearchStandsBut formula engines c waiting told
PutsUnits formula engines c waiting told false = RefutesIn c.tidies formula 1 told []

-- so it is, whatever parities the search was over
abbrev pub Puts : {L : Type 0} → sink.Ghosts L LogEvent → SearchLog L → SearchState → List Single → SearchLog L → SearchState → List Single → Bool → Type 0
Puts m log c waiting log_now now rest going = (engines : List (List Literal)) → SearchStandsBut log.formula.now engines c waiting (told_in m log) → PutsUnits log_now.formula.now engines now rest (told_in m log_now) going
