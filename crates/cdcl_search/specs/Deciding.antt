-- What is decided.
use Rattle.std.specs.Prelude.{◌≡◌, ◌≤◌, ◌+◌, ◌⊎◌, List, length}
use Rattle.cx_base.specs.Literals.{Literal}
use Rattle.cx_trail.specs.declared.entry.Reason.TheVariants.{Decision}
use Rattle.cx_trail.specs.Sequence.{TrailState, IsOpenIn, pushed}
use Rattle.search_policy.specs.Assuming.{AreTrue, IsFirstOpen}
use Rattle.search_policy.specs.Standing.{AllStand}
use Rattle.cdcl_search.specs.declared.state.SearchState.{SearchState}

-- a literal without a value
pub record IsNextDecision (t : TrailState) (l : Literal) : Type 0 where
  pub low : 1 ≤ l.variable
  pub high : l.variable ≤ t.variables
  pub no_value : IsOpenIn t.entries l.variable

-- each unassigned variable is in the order's heap, and each variable has the value that it had last
pub record CanPick (c : SearchState) : Type 0 where
  pub stand : AllStand c.order c.trail
  pub phased : length c.phases.items ≡ c.trail.variables

-- only the order differs, and each unassigned variable is in its heap
pub record IsReordered (old new : SearchState) : Type 0 where
  pub stand : AllStand new.order old.trail
  pub same : new ≡ record old { order = new.order }

-- A decision opened a level: of the first assumed literal that had no value, or each assumed literal was true.
pub record DecidesOn (assumed : List Literal) (old new : TrailState) : Type 0 where
  pub literal : Literal
  pub first : AreTrue assumed old ⊎ IsFirstOpen assumed old literal
  pub opens : new ≡ pushed old (old.level + 1) literal Decision
