-- What the search tells its log, and when.
use Rattle.std.specs.Prelude.{◌≡◌, ℕ, ◌<◌, ℤ, nat_abs, nat_lt, false, List, [], ◌∷◌, ◌++◌, length, None, IsTrue, IsFalse, Contains, ⊤, ◌⊎◌}
use Rattle.std.specs.List.{list_any, AllByRecursion}
use Rattle.cx_base.specs.Literals.{Literal}
use Rattle.cx_base.specs.Parity.{normal_form, HasOneOfEach}
use Rattle.cx_base.specs.Problem.{Problem, clause_met, parity_met, AreWithin}
use Rattle.cx_semantics.specs.Chain.{negations}
use Rattle.cx_semantics.specs.Implied.{Implies}
use Rattle.cx_base.specs.Integers.{literals}
use Rattle.cx_semantics.specs.LogRules.{AreLive, derived_clause, derives_ending_clause, log_calculus}
use Rattle.cx_base.specs.Events.{steps_of}
use Rattle.cx_base.specs.Assumptions.{clashes}
use Rattle.cx_semantics.specs.Judging.{EndsAt}
use Rattle.cx_semantics.specs.Marked.{is_among}
use Rattle.cx_semantics.specs.ProofRules.{IsSum}
use Rattle.cx_base.specs.declared.steps.LogStep.{LogStep}
use Rattle.cx_base.specs.declared.steps.LogEvent.{LogEvent}
use Rattle.cx_base.specs.declared.steps.LogEvent.TheVariants.{Step}
use Rattle.cx_base.specs.declared.steps.LogStep.TheVariants.{ClauseWithHints, Parity, ClauseOfParity, DeleteParity, Delete}
use Rattle.cx_semantics.specs.Tables.{Table, Tables, get, named}
use Rattle.search_steps.specs.Trail.{Entry, rests_on, by_clause}
use Rattle.search_steps.specs.Covers.{CoversNone}
use Rattle.search_steps.specs.Search.{Search, told, marked, jumped, forced_on}

-- the variables of the step's integers are the formula's, and its id is free
pub record IsAddition (formula : Problem) (table : Table) (n : ℕ) (zs : List ℤ) : Type 0 where
  pub within : IsFalse (list_any (λ z. nat_lt formula.variables (nat_abs z)) zs)
  pub free : get table n ≡ None

-- each entry was forced by a live clause
abbrev pub RestOnClauses : List Entry → Type 0
RestOnClauses [] = ⊤
RestOnClauses (e ∷ es) = ((n : ℕ) × (e.why ≡ by_clause n)) × RestOnClauses es

-- a row: the sum of parities of the engine, under their ids
pub record IsRowOf (parities : List (List Literal)) (tables : Tables) (ids : List ℕ) (row : List Literal) : Type 0 where
  pub live : AreLive tables.parities ids
  pub theirs : AllByRecursion (Contains parities) (named tables.parities ids)
  pub sums : IsSum row (named tables.parities ids)

-- the clause of a row: one literal of each of its variables, and the row implies it
pub record IsClauseOfRow (n : ℕ) (row clause : List Literal) : Type 0 where
  pub within : AreWithin n clause
  pub one_of_each : HasOneOfEach (normal_form row).variables clause
  pub implied : Implies (λ values. parity_met values row) (λ values. clause_met values clause)

-- the three steps for the clause of a sum: the sum, its clause, and the sum's deletion
abbrev pub sum_events : ℕ → List ℤ → List ℕ → ℕ → List ℤ → List LogEvent
sum_events k rs ids n zs = Step (Parity k rs ids) ∷ Step (ClauseOfParity n zs k) ∷ Step (DeleteParity k []) ∷ []

-- the steps for the reason that a row gave: its clause, from its one source or from the sum of its sources
abbrev pub row_events : ℕ → List ℤ → List ℕ → ℕ → List ℤ → List LogEvent
row_events k rs (source ∷ []) n zs = Step (ClauseOfParity n zs source) ∷ []
row_events k rs ids n zs = sum_events k rs ids n zs

abbrev pub all_told : Search → List LogEvent → Search
all_told s [] = s
all_told s (event ∷ events) = all_told (told s event) events

-- what these steps ask: free ids, the sum's above the engine's parities, a row of the engine and its clause, which does not end the log
pub record IsRowReason (formula : Problem) (parities : List (List Literal)) (s : Search) (k : ℕ) (rs : List ℤ) (ids : List ℕ) (n : ℕ) (zs : List ℤ) : Type 0 where
  pub high : length parities < k
  pub row_step : IsAddition formula s.moment.tables.parities k rs
  pub row : IsRowOf parities s.moment.tables ids (literals rs)
  pub clause_step : IsAddition formula s.moment.tables.clauses n zs
  pub clause : IsClauseOfRow formula.variables (literals rs) (literals zs)
  pub goes_on : IsFalse (derives_ending_clause formula (ClauseOfParity n zs k))

-- no entry rests on the clause of the id
abbrev pub IsNoReason : ℕ → List Entry → Type 0
IsNoReason n [] = ⊤
IsNoReason n (e ∷ es) = (e.why ≡ by_clause n → ⊥) × IsNoReason n es

-- ids of clauses that may go: none covers one of the formula, none is learned, and none a reason
abbrev pub AreTemporary : Search → List ℕ → Type 0
AreTemporary s ids = AllByRecursion (λ n. CoversNone s.moment n × (is_among s.moment.learned n ≡ false) × IsNoReason n s.trail) ids

-- the search after these ids were deleted one after another
abbrev pub deleted : Search → List ℕ → Search
deleted s [] = s
deleted s (n ∷ ids) = deleted (told s (Step (Delete n []))) ids

-- the steps are right and the last one ends the log, or the formula's assumptions clash
abbrev pub IsEnded : Problem → List LogEvent → Type 0
IsEnded formula events = IsTrue (clashes formula.constraints) ⊎ (IsFalse (clashes formula.constraints) × EndsAt (log_calculus formula) (steps_of events) (length (steps_of events)))

-- these literals are the negations of those of the clause that the last step adds
abbrev pub LastRefutes : List LogEvent → List Literal → Type 0
LastRefutes events failed = (before : List LogEvent) × (step : LogStep) × (events ≡ before ++ Step step ∷ []) × (failed ≡ negations (derived_clause step))

-- the search after the unit clause of an entry of level 0, which is its reason from then on; the hints of a clause by a chain may be any
abbrev pub unit_told : Search → ℕ → ℤ → List ℤ → List Entry → Entry → List Entry → Search
unit_told s n z hints newer e older = record (told s (Step (ClauseWithHints n (z ∷ []) hints))) { trail = newer ++ rests_on e n ∷ older }

-- the search after a counted conflict and its clause
abbrev pub after_learned : Search → ℕ → List ℤ → List ℤ → ℕ → Search
after_learned s n zs hints back = record (told (marked s) (Step (ClauseWithHints n zs hints))) { quiet_levels = back }

-- and after the deletion of the clauses of rows, the jump back, and the literal that the clause forces
abbrev pub after_round : Search → ℕ → List ℤ → List ℤ → ℕ → Literal → Search
after_round s n zs hints back l = forced_on (jumped (deleted (after_learned s n zs hints back) s.moment.new_clauses) back) l (by_clause n)
