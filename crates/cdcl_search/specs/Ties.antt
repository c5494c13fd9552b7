-- What the code of a search holds, part by part, and how a search of the calculus fits it. Each part takes just what it speaks of, so that a step that leaves this as it was passes the part on.
use Rattle.std.specs.Prelude.{◌≡◌, ◌≢◌, ◌⊎◌, ℕ, zero, suc, ◌+◌, ◌-◌, ◌<◌, ◌≤◌, ◌^◌, Bool, false, List, [], ◌∷◌, ◌++◌, length, take, get_or, Option, Some, None, IsTrue, IsFalse, Contains, if◌then◌else◌, ⊤}
use Rattle.std.specs.List.{AllByRecursion}
use Rattle.std.specs.FinSet as set
use Rattle.cx_base.specs.Literals.{Literal, literal_true, HasTwo}
use Rattle.cx_base.specs.Problem.{Problem, clauses_of}
use Rattle.cx_base.specs.declared.steps.LogEvent.{LogEvent}
use Rattle.cx_semantics.specs.Chain.{is_inside}
use Rattle.cx_semantics.specs.Fresh.{is_tautology}
use Rattle.cx_semantics.specs.Settled.{IsClauseOf}
use Rattle.cx_semantics.specs.Tables.{Table, get}
use Rattle.cx_trail.specs.declared.entry.Entry.{Entry as TrailEntry}
use Rattle.cx_trail.specs.declared.entry.Reason.{Reason}
use Rattle.cx_trail.specs.declared.entry.Reason.TheVariants as reason
use Rattle.cx_trail.specs.Sequence.{TrailState, entry_at, IsTrueIn, IsAssignedIn}
use Rattle.tidy_rules.specs.Below.{TidiedBelow}
use Rattle.clause_arena.specs.Clauses.{IsLive, literals_at, id_at, ArenaState, learned_at}
use Rattle.watch_lists.specs.Truths.{AreOthersFalse}
use Rattle.watch_lists.specs.Watching.{Fits, IsAttached, WatchState}
use Rattle.search_policy.specs.Standing.{AllStand, OrderState}
use Rattle.parity_engine.specs.State.{State, Named, named_at, MeetsForm}
use Rattle.parity_engine.specs.Equations.{sum_of_numbers}
use Rattle.parity_engine.specs.Written.{AreRising}
use Rattle.search_steps.specs.Trail.{Entry, held, level_of, by_clause}
use Rattle.search_steps.specs.Quiet.{HasTrue}
use Rattle.search_steps.specs.Search.{Search, IsSearchIn}
use Rattle.search_steps.specs.Ids.{IsRanged, HasFreeSums}
use Rattle.search_steps.specs.Size.{HasFewAdditions}
use Rattle.search_steps.specs.Tied.{Mirrors}
use Rattle.search_steps.specs.Engine.{HoldsValues}
pub use Rattle.search_steps.specs.Hints.{IsNamedBy}
use Rattle.search_steps.specs.Holding.{AreTold}
use Rattle.cdcl_search.specs.declared.state.SearchState.{SearchState}
use Rattle.cx_semantics.specs.Marked.{Moment, is_among}
use Rattle.search_steps.specs.Laws.{HaveTheirs}

-- where the next clause that stays gets this id, the clauses of rows have the ids after it
abbrev pub first_row_id : ℕ → ℕ
first_row_id next = next + 1

-- the ids of this many clauses of rows from the first one on, the newest first
abbrev pub row_ids : ℕ → ℕ → List ℕ
row_ids first zero = []
row_ids first (suc n) = (first + n) ∷ row_ids first n

-- ---- the log
-- the clauses of rows that were told since the last mark are under their ids, from the first one on
abbrev pub AreRows : Table → ℕ → List (List Literal) → Type 0
AreRows table first rows = (i : ℕ) → i < length rows → get table (first + i) ≡ Some (get_or rows i [])

-- the engine's parities are under their numbers
abbrev pub AreNumbered : Table → List (List Literal) → Type 0
AreNumbered table parities = (k : ℕ) → 1 ≤ k → k ≤ length parities → get table k ≡ Some (get_or parities (k - 1) [])

-- no clause is owed, and of what is temporary just the clauses of rows are left
pub record HasOnlyRowClauses (s : Search) (first rows : ℕ) : Type 0 where
  pub served : IsFalse s.moment.awaits
  pub old_clauses : s.moment.old_clauses ≡ []
  pub new_clauses : s.moment.new_clauses ≡ row_ids first rows
  pub old_sums : s.moment.old_sums ≡ []
  pub new_sums : s.moment.new_sums ≡ []

-- The engine's parities are under their numbers, and the clauses of rows, of which there are few, under theirs; what else is told keeps to its ranges, and nothing temporary is left but these clauses. A search that tidies may add more.
pub record LogTies (tidies : Bool) (formula : Problem) (parities : List (List Literal)) (next first : ℕ) (rows : List (List Literal)) (s : Search) : Type 0 where
  pub ranged : IsRanged formula first next (first + length rows) s.trail s.moment
  pub sums : HasFreeSums (length parities) s.moment
  pub numbered : AreNumbered s.moment.tables.parities parities
  pub rows_told : AreRows s.moment.tables.clauses first rows
  pub few_rows : length rows ≤ formula.variables + 1
  pub few_additions : tidies ≡ false → HasFewAdditions formula next first (length rows) s
  pub none_at_0 : get s.moment.tables.clauses 0 ≡ None
  pub served : HasOnlyRowClauses s first (length rows)

-- ---- the clauses
-- a clause of the arena has two different literals, is the live clause of its id, and has an id above the formula's where it was learned
pub record IsKept (formula : Problem) (table : Table) (next : ℕ) (arena : ArenaState) (r : ℕ) : Type 0 where
  pub wide : HasTwo (literals_at arena r)
  pub named : IsNamedBy table (literals_at arena r) (id_at arena r)
  pub low : id_at arena r < next
  pub late : IsTrue (learned_at arena r) → length (clauses_of formula.constraints) < id_at arena r

-- a live clause is in the arena under its id, or the search does not tidy and it has a literal with its negation, or it has no two different literals and level 0 makes its one true
abbrev pub IsHeld : Bool → ArenaState → List Literal → ℕ → List Literal → Type 0
IsHeld tidies arena fixed n clause = ((r : ℕ) × IsLive arena r × (id_at arena r ≡ n)) ⊎ ((tidies ≡ false) × IsTrue (is_tautology clause)) ⊎ ((¬ HasTwo clause) × HasTrue fixed clause)

-- It is a tautology, level 0 makes a literal of it true, or a clause of the arena that was not learned lies inside it.
abbrev pub NeedsNoLearned : ArenaState → List Literal → List Literal → Type 0
NeedsNoLearned arena fixed clause = IsTrue (is_tautology clause) ⊎ HasTrue fixed clause ⊎ ((r : ℕ) × IsLive arena r × IsFalse (learned_at arena r) × IsTrue (is_inside (literals_at arena r) clause))

-- the arena's clauses before this reference are tidy, and it was handed out or is the next one
pub record AreTidyBefore (arena : ArenaState) (below : ℕ) : Type 0 where
  pub tidy : TidiedBelow arena below
  pub within : below ≤ length arena.clauses

-- the arena holds the live clauses that stay, each under an id of its own; those before a reference are tidy; no clause of the formula needs a learned one; level 0 makes the fixed literals true
pub record ClauseTies (tidies : Bool) (formula : Problem) (table : Table) (next : ℕ) (arena : ArenaState) (below : ℕ) (fixed : List Literal) : Type 0 where
  pub stored : (r : ℕ) → IsLive arena r → IsKept formula table next arena r
  pub covered : (n : ℕ) (clause : List Literal) → n < next → get table n ≡ Some clause → IsHeld tidies arena fixed n clause
  pub apart : (r q : ℕ) → IsLive arena r → IsLive arena q → id_at arena r ≡ id_at arena q → r ≡ q
  pub original : (clause : List Literal) → IsClauseOf formula clause → NeedsNoLearned arena fixed clause
  pub old : AreTidyBefore arena below

-- each clause of the arena that was learned has one of these ids
abbrev pub AreLearned : ArenaState → List ℕ → Type 0
AreLearned arena ids = (r : ℕ) → IsLive arena r → IsTrue (learned_at arena r) → IsTrue (is_among ids (id_at arena r))

-- ---- the watches
-- they fit, and each clause of the arena is attached
pub record IsWatched (w : WatchState) (a : ArenaState) (t : TrailState) : Type 0 where
  pub fits : Fits w a t
  pub all : (r : ℕ) → IsLive a r → IsAttached w.attached r

-- ---- the trail
pub record TrailTies (formula : Problem) (es : List Entry) (trail : TrailState) (order : OrderState) (phases : List Bool) : Type 0 where
  pub follows : Mirrors es trail
  pub variables : trail.variables ≡ formula.variables
  pub stand : AllStand order trail
  pub phased : length phases ≡ formula.variables

-- each entry rests on a unit clause of one of these ids
abbrev pub RestOnUnits : List ℕ → List Entry → Type 0
RestOnUnits ids [] = ⊤
RestOnUnits ids (e ∷ es) = ((i : ℕ) × (i < length ids) × (e.why ≡ by_clause (get_or ids i 0))) × RestOnUnits ids es

-- the first literals of level 0 have unit clauses under these ids and rest on them; above level 0 all of level 0 have
pub record AreUnits (table : Table) (next : ℕ) (t : TrailState) (es : List Entry) (ids : List ℕ) : Type 0 where
  pub few : length ids ≤ length t.entries
  pub level_0 : (i : ℕ) → i < length ids → (entry_at t.entries i).level ≡ 0
  pub named : (i : ℕ) → i < length ids → IsNamedBy table ((entry_at t.entries i).literal ∷ []) (get_or ids i 0)
  pub low : (i : ℕ) → i < length ids → get_or ids i 0 < next
  pub newer : List Entry
  pub older : List Entry
  pub parts : es ≡ newer ++ older
  pub count : length older ≡ length ids
  pub rest : RestOnUnits ids older
  pub all : 0 < t.level → (i : ℕ) → length ids ≤ i → i < length t.entries → 0 < (entry_at t.entries i).level

-- ---- reasons
-- values that make each of the first n literals of the trail true
abbrev pub AgreesUpTo : ℕ → List TrailEntry → List Bool → Type 0
AgreesUpTo n entries values = (l : Literal) → IsTrueIn (take n entries) l → IsTrue (literal_true values l)

-- The row was named for the literal at place i: it has its variable, its others are assigned before, it is met once the literal is true, and
-- it is the sum of its sources.
pub record IsRowReasonAt (e : State) (entries : List TrailEntry) (i row : ℕ) : Type 0 where
  pub named : Named
  pub is : named_at e row ≡ Some named
  pub implied : named.in_conflict ≡ false
  pub level : named.level ≤ (entry_at entries i).level
  pub has : IsTrue (set.contains named.form.variables (entry_at entries i).literal.variable)
  pub others : (v : ℕ) → 1 ≤ v → v ≢ (entry_at entries i).literal.variable → IsTrue (set.contains named.form.variables v) → IsAssignedIn (take i entries) v
  pub met : (values : List Bool) → AgreesUpTo (suc i) entries values → MeetsForm values named.form
  pub numbers : AreRising 1 (length e.parities) named.sources
  pub sums : named.form ≡ sum_of_numbers e.parities named.sources

-- the clause of the arena has the literal at place i, and its others were false before
pub record IsClauseReasonOf (arena : ArenaState) (entries : List TrailEntry) (i r : ℕ) : Type 0 where
  pub live : IsLive arena r
  pub has : Contains (literals_at arena r) (entry_at entries i).literal
  pub others : AreOthersFalse (take i entries) (literals_at arena r) (entry_at entries i).literal

abbrev pub HasReasonOf : ArenaState → List TrailEntry → State → ℕ → Reason → Type 0
HasReasonOf arena entries e i reason.Decision = 0 < (entry_at entries i).level
HasReasonOf arena entries e i (reason.Clause r) = IsClauseReasonOf arena entries i r
HasReasonOf arena entries e i (reason.Row row) = IsRowReasonAt e entries i row

-- each literal after this many has a reason
abbrev pub ReasonTies : ArenaState → List TrailEntry → ℕ → State → Type 0
ReasonTies arena entries units e = (i : ℕ) → units ≤ i → i < length entries → HasReasonOf arena entries e i (entry_at entries i).reason

-- so it is with the literals after those that have unit clauses
abbrev pub HaveReasons : SearchState → State → Type 0
HaveReasons c e = ReasonTies c.arena c.trail.entries (length c.units.items) e

-- ---- the engine
-- it has the values of the oldest literals of the trail; the others are of the current level
pub record IsFed (es : List Entry) (given : ℕ) (e : State) : Type 0 where
  pub newer : List Entry
  pub older : List Entry
  pub parts : es ≡ newer ++ older
  pub count : length older ≡ given
  pub now : AllByRecursion (λ x. x.level ≡ e.level) newer
  pub values : HoldsValues older e.values
  pub level : e.level ≡ level_of es

-- It has the formula's variables, and its parities say what the formula's and the recovered ones do, with no more of them than constraints. It has the values of the oldest literals of the trail.
pub record EngineTies (formula : Problem) (es : List Entry) (given : ℕ) (e : State) : Type 0 where
  pub vars : e.vars ≡ formula.variables
  pub wide : length e.values ≡ e.vars
  pub theirs : HaveTheirs formula e.parities
  pub few : length e.parities ≤ length formula.constraints
  pub fed : IsFed es given e

-- ---- what is counted
-- the stretches between marks that hold a reduction, up to now
abbrev pub stretches : Moment → ℕ
stretches m = if m.reduces then m.reductions + 1 else m.reductions

-- the numbers fall, from below this one on
abbrev pub IsFallingFrom : ℕ → List ℕ → Type 0
IsFallingFrom top [] = ⊤
IsFallingFrom top (n ∷ ns) = (n < top) × IsFallingFrom n ns

-- the learned clauses are at least as many as the code counts, each under an id of its own, and the stretches with a reduction at most as many
pub record CountTies (next conflicts learned reductions : ℕ) (s : Search) : Type 0 where
  pub marked : s.conflicts ≡ conflicts
  pub falling : IsFallingFrom next s.moment.learned
  pub many : learned ≤ length s.moment.learned
  pub few : stretches s.moment ≤ reductions

-- Each id below the next one is that of a clause of the formula, of a learned clause or of a unit clause of level 0; and the sums of rows have the id after the number of the constraints.
pub record HasFewIds (formula : Problem) (next conflicts units : ℕ) : Type 0 where
  pub taken : next ≤ length formula.constraints + conflicts + units + 1
  pub counted : conflicts ≤ 10 ^ 18
  pub few : length formula.constraints ≤ 4294967295

-- ---- the whole
-- what the code holds, apart from the watches, is what the search of the calculus holds; of rows these clauses were told since the last mark, under the ids from this one on
pub record TiesFrom (formula : Problem) (c : SearchState) (e : State) (first : ℕ) (rows : List (List Literal)) (s : Search) : Type 0 where
  pub log : LogTies c.tidies formula e.parities c.next first rows s
  pub clauses : ClauseTies c.tidies formula s.moment.tables.clauses c.next c.arena c.tidy_below (held 0 s.trail)
  pub learned : AreLearned c.arena s.moment.learned
  pub trail : TrailTies formula s.trail c.trail c.order c.phases.items
  pub units : AreUnits s.moment.tables.clauses c.next c.trail s.trail c.units.items
  pub engine : EngineTies formula s.trail c.given e
  pub reasons : ReasonTies c.arena c.trail.entries (length c.units.items) e
  pub counts : CountTies c.next c.conflicts c.learned c.reductions s
  pub ids : HasFewIds formula c.next c.conflicts (length c.units.items)
  pub levels : s.quiet_levels ≡ level_of s.trail

-- so it is with the ids after the next one
abbrev pub Ties : Problem → SearchState → State → List (List Literal) → Search → Type 0
Ties formula c e rows s = TiesFrom formula c e (first_row_id c.next) rows s

-- some search of the calculus fits the code, and its events are the sink's where that tells them
abbrev pub SearchStandsFrom : Problem → SearchState → State → ℕ → List (List Literal) → Option (List LogEvent) → Type 0
SearchStandsFrom formula c e first rows told = (s : Search) × IsSearchIn c.tidies formula e.parities s × AreTold told s.events × TiesFrom formula c e first rows s × IsWatched c.watches c.arena c.trail

abbrev pub SearchStands : Problem → SearchState → State → List (List Literal) → Option (List LogEvent) → Type 0
SearchStands formula c e rows told = SearchStandsFrom formula c e (first_row_id c.next) rows told
