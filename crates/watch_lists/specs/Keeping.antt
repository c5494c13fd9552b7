-- What watches keep.
use Rattle.std.specs.Prelude.{ℕ, ◌+◌, ◌*◌, ◌≡◌, ◌≤◌, Bool, List, length}
use Rattle.cx_base.specs.declared.literal.TheConstants.{MAX_VARIABLE}
use Rattle.watch_lists.specs.Lists.{ListsState}
use Rattle.watch_lists.specs.Walking.{AreListed, AreOf}

-- there is room for an entry for each level, each attached clause has its two nodes in the lists, and each node watches a literal of the variables
pub record AreWatches (vars room : ℕ) (looked : List ℕ) (attached : List Bool) (lists : ListsState) : Type 0 where
  pub few : vars ≤ MAX_VARIABLE
  pub room_for_levels : vars + 1 ≤ room
  pub some : 1 ≤ length looked
  pub listed : AreListed lists.held attached lists.lists
  pub size : length lists.lists ≡ 2 * vars + 2
  pub over : AreOf vars lists.held
  pub pairs : length lists.held ≡ 2 * length attached
