-- What holds of the search between two conflicts.
use Rattle.std.specs.Prelude.{◌≡◌, ◌≢◌, ◌<◌, ◌≤◌, List, length}
use Rattle.cx_base.specs.declared.constraint.Constraint.{Constraint}
use Rattle.cx_trail.specs.Sequence.{IsFull}
use Rattle.parity_engine.specs.declared.state.Mood.TheVariants.{Broken}
use Rattle.parity_engine.specs.State.{State}
use Rattle.cdcl_search.specs.declared.state.SearchState.{SearchState}
use Rattle.search_policy.specs.Assuming.{KeepsAssumptions, Contradicts}
use Rattle.search_policy.specs.declared.assumptions.Assumptions.{Assumptions}
use Rattle.cdcl_search.specs.declared.searching.Reached.{Reached}
use Rattle.cdcl_search.specs.declared.searching.Reached.TheVariants.{Found, Failed}
use Rattle.cdcl_search.specs.declared.propagation.Found.TheVariants.{Quiet}
use Rattle.cdcl_search.specs.Finds.{PropagationFinds}

-- a unit clause was told for each literal of level 0 that was checked, where that is the current level
abbrev pub HasUnits : SearchState → Assumptions → Type 0
HasUnits c a = c.trail.level ≡ 0 → a.checked ≤ length c.units.items

-- what propagation found; and the oldest literal of the trail that contradicts an assumed one, where one does
abbrev pub SettlesAt : List Constraint → SearchState → State → Assumptions → Reached → Type 0
SettlesAt constraints c e a (Found found) = PropagationFinds c e found × (a.checked ≡ length c.trail.entries)
SettlesAt constraints c e a (Failed place found) = (place ≡ a.checked) × (place < length c.trail.entries) × Contradicts constraints c.trail place × PropagationFinds c e found

-- both engines are quiet and each variable is assigned, or one is in conflict, or a literal contradicts an assumed one; the units of level 0 are told
pub record SearchReaches (constraints : List Constraint) (c : SearchState) (e : State) (a : Assumptions) (reached : Reached) : Type 0 where
  pub settles : SettlesAt constraints c e a reached
  pub full : reached ≡ Found Quiet → IsFull c.trail
  pub units : HasUnits c a
  pub keeps : KeepsAssumptions constraints a c.trail

-- a decision opened a level
pub record OpensLevel (old new : SearchState) (e : State) : Type 0 where
  pub longer : length old.trail.entries < length new.trail.entries
  pub unbroken : e.mood ≢ Broken
