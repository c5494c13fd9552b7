-- Rows without the literals that unit clauses of level 0 make false.
use Rattle.std.specs.Prelude.{◌≡◌, ◌≢◌, ◌⊎◌, ℕ, ◌+◌, ◌<◌, ℤ, List, [], ◌∷◌, ◌++◌, length, get_or, Option, None}
use Rattle.std.specs.List.{AllByRecursion, range_with_len}
use Rattle.cx_base.specs.Literals.{Literal, negate}
use Rattle.cx_base.specs.Integers.{integer_of, integers_of}
use Rattle.cx_base.specs.declared.steps.LogEvent.{LogEvent}
use Rattle.cx_base.specs.declared.steps.LogEvent.TheVariants.{Step}
use Rattle.cx_base.specs.declared.steps.LogStep.TheVariants.{ClauseWithHints, ParityOfClauses}
use Rattle.cx_semantics.specs.Chain.{negations}
use Rattle.cx_trail.specs.Sequence.{entry_at, IsTrueIn}
use Rattle.xor_reason.specs.declared.reason.ReasonOf.{ReasonOf}
use Rattle.cdcl_search.specs.Rows.{sum_and_clause_events}
use Rattle.cdcl_search.specs.Tells.{AreStepsOf}
use Rattle.cdcl_search.specs.Ties.{first_row_id}
use Rattle.cdcl_search.specs.declared.state.SearchState.{SearchState}
use Rattle.cdcl_core.specs.declared.conflicts.LogEnd.{LogEnd}
use Rattle.cdcl_core.specs.declared.shortening.Shortened.{Shortened}
use Rattle.cdcl_core.specs.declared.shortening.UnitClause.{UnitClause}

-- a unit clause of level 0 that was told, under its id
abbrev pub IsToldUnit : SearchState → UnitClause → Type 0
IsToldUnit c u = (i : ℕ) × (i < length c.units.items) × ((entry_at c.trail.entries i).literal ≡ u.literal) × (u.id ≡ get_or c.units.items i 0)

-- no unit clause of level 0 was told for this literal
abbrev pub HasNoUnit : SearchState → Literal → Type 0
HasNoUnit c l = (i : ℕ) → i < length c.units.items → (entry_at c.trail.entries i).literal ≢ l

-- each literal is left, or a unit clause makes it false; both are in order
abbrev pub ArePartedInto : List Literal → List Literal → List UnitClause → Type 0
ArePartedInto [] left units = (left ≡ []) × (units ≡ [])
ArePartedInto (l ∷ lits) left units =
    ((rest : List Literal) × (left ≡ l ∷ rest) × ArePartedInto lits rest units)
    ⊎ ((u : UnitClause) × (rest : List UnitClause) × (units ≡ u ∷ rest) × (l ≡ negate u.literal) × ArePartedInto lits left rest)

-- the literals of a clause that no unit clause of level 0 makes false, and the unit clauses that make the others false
pub record IsShortened (c : SearchState) (clause : List Literal) (s : Shortened) : Type 0 where
  pub parts : ArePartedInto clause s.left s.units.items
  pub told : AllByRecursion (IsToldUnit c) s.units.items
  pub no_unit : AllByRecursion (λ l. HasNoUnit c (negate l)) s.left

-- the parities of unit clauses, under the ids from the first one on
abbrev pub unit_parity_events : ℕ → List UnitClause → List LogEvent
unit_parity_events k [] = []
unit_parity_events k (u ∷ us) = Step (ParityOfClauses k (integer_of u.literal ∷ []) (u.id ∷ [])) ∷ unit_parity_events (k + 1) us

-- The parities of unit clauses, from this id on; then the sum of the row's sources and of these, which is written as the literals that are left; and these as its clause, under the last id.
abbrev pub short_row_events : ℕ → List ℕ → List UnitClause → List Literal → ℕ → List LogEvent
short_row_events k sources units left n =
    unit_parity_events k units ++ sum_and_clause_events (k + length units) (integers_of left) (sources ++ range_with_len k (length units)) n (integers_of left)

-- the steps of some events, and after them those of a row without the literals of units, whose clause has this id; what fails are the negations of what is left
pub record EndsBy (constraints n : ℕ) (sources : List ℕ) (short : Shortened) (before : List LogEvent) (e : LogEnd) : Type 0 where
  pub steps : AreStepsOf (before ++ short_row_events (constraints + 1) sources short.units.items short.left n) e.steps.items
  pub failed : e.failed ≡ negations short.left

-- steps that end the log by what is left of a row's clause
pub record EndsByRow (c : SearchState) (constraints : ℕ) (reason : ReasonOf) (e : LogEnd) : Type 0 where
  pub short : Shortened
  pub shortened : IsShortened c reason.clause short
  pub ends : EndsBy constraints (first_row_id c.next) reason.sources short [] e

-- unit clauses of the negations of these literals, under the ids from the first one on
abbrev pub late_units_from : ℕ → List Literal → List UnitClause
late_units_from n [] = []
late_units_from n (l ∷ lits) = record { literal = negate l; id = n } ∷ late_units_from (n + 1) lits

-- these unit clauses, each by a chain with these hints
abbrev pub late_unit_events : List ℤ → List UnitClause → List LogEvent
late_unit_events hints [] = []
late_unit_events hints (u ∷ us) = Step (ClauseWithHints u.id (integer_of u.literal ∷ []) hints) ∷ late_unit_events hints us

-- Steps that end the log by a row's clause, of whose literals none is left: those that no unit clause made false get one by a chain with these hints, after this many clauses of rows.
pub record EndsByUnits (c : SearchState) (constraints rows : ℕ) (reason : ReasonOf) (hints : List ℤ) (e : LogEnd) : Type 0 where
  pub short : Shortened
  pub shortened : IsShortened c reason.clause short
  pub last : Shortened
  pub units : last.units.items ≡ short.units.items ++ late_units_from (first_row_id c.next + rows) short.left
  pub nothing : last.left ≡ []
  pub ends : EndsBy constraints (first_row_id c.next + rows + length short.left) reason.sources last (late_unit_events hints (late_units_from (first_row_id c.next + rows) short.left)) e

-- What fails is short: for none of these a unit clause of level 0 was told; and where a row is not met, each is true.
pub record AreShort (c : SearchState) (kept : Option Literal) (failed : List Literal) : Type 0 where
  pub no_unit : AllByRecursion (HasNoUnit c) failed
  pub are_true : kept ≡ None → AllByRecursion (IsTrueIn c.trail.entries) failed

-- each literal of the trail has a unit clause of level 0
abbrev pub HasAllUnits : SearchState → Type 0
HasAllUnits c = length c.units.items ≡ length c.trail.entries
