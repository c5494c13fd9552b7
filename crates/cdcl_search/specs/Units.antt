-- How unit clauses of level 0 are told.
use Rattle.std.specs.Prelude.{◌≡◌, ℕ, ◌<◌, ℤ, pos, List, [], ◌∷◌, ◌++◌, length, map, get_or, IsTrue}
use Rattle.std.specs.List.{AllByRecursion, Contains}
use Rattle.cx_base.specs.Literals.{Literal, negate}
use Rattle.cx_semantics.specs.Chain.{has_literal}
use Rattle.cx_trail.specs.Sequence.{StandsAt}
use Rattle.conflict_learn.specs.Learning.{IsAntecedent}
use Rattle.cdcl_search.specs.declared.state.SearchState.{SearchState}
use Rattle.cdcl_search.specs.Sources.{IsSourcedBy}
use Rattle.cdcl_search.specs.Tells.{IsId}

-- only the unit clauses and the next id differ
pub record HasOther (old new : SearchState) : Type 0 where
  pub trail : new.trail ≡ old.trail
  pub arena : new.arena ≡ old.arena
  pub watches : new.watches ≡ old.watches
  pub order : new.order ≡ old.order
  pub given : new.given ≡ old.given
  pub conflicts : new.conflicts ≡ old.conflicts
  pub phases : new.phases ≡ old.phases
  pub learned : new.learned ≡ old.learned
  pub reductions : new.reductions ≡ old.reductions
  pub tidies : new.tidies ≡ old.tidies

-- the literal comes after those that have unit clauses, and this clause of a source implied it, which has this id of a step
pub record IsNextUnit (c : SearchState) (rows : List (List Literal)) (l : Literal) (clause : List Literal) (n : ℕ) : Type 0 where
  pub next : StandsAt c.trail.entries l (length c.units.items)
  pub sourced : IsSourcedBy c rows clause n
  pub implied : IsAntecedent c.trail l clause
  pub id : IsId n

-- a unit clause of level 0 makes the literal false
abbrev pub IsFalseByUnit : SearchState → Literal → Type 0
IsFalseByUnit c m = (i : ℕ) × (i < length c.units.items) × StandsAt c.trail.entries (negate m) i

-- this id is among them wherever a unit clause has the negation of one of these literals
abbrev pub HaveUnitsAgainst : SearchState → List Literal → List ℕ → Type 0
HaveUnitsAgainst c lits units = (m : Literal) → IsTrue (has_literal lits m) → (i : ℕ) → i < length c.units.items → StandsAt c.trail.entries (negate m) i → Contains units (get_or c.units.items i 0)

-- the hints are ids of unit clauses that the search holds, of all that make one of these literals false, and after them this id
pub record AreUnitsAnd (c : SearchState) (lits : List Literal) (id : ℕ) (hints : List ℤ) : Type 0 where
  pub units : List ℕ
  pub held : AllByRecursion (Contains c.units.items) units
  pub against : HaveUnitsAgainst c lits units
  pub spelled : hints ≡ map pos (units ++ id ∷ [])
