-- What a propagation leaves.
use Rattle.std.specs.Prelude.{◌≡◌, ℕ, Bool, List, ◌++◌}
use Rattle.cx_base.specs.Literals.{Literal}
use Rattle.cx_base.specs.Problem.{Problem}
use Rattle.cx_trail.specs.declared.entry.Entry.{Entry as TrailEntry}
use Rattle.search_steps.specs.Ids.{ReasonsBelow}
use Rattle.search_steps.specs.Search.{Search, IsSearchIn, with_trail}
use Rattle.search_steps.specs.Tied.{IsTied}
use Rattle.search_steps.specs.Trail.{Entry, level_of}

-- The search holds with newer entries on its trail, which is tied to the code's; the level is as before, and reasons below the bound stay so.
pub record IsPropagated (tidies : Bool) (formula : Problem) (parities : List (List Literal)) (bound : ℕ) (s : Search) (entries : List TrailEntry) : Type 0 where
  pub newer : List Entry
  pub holds : IsSearchIn tidies formula parities (with_trail s (newer ++ s.trail))
  pub tied : IsTied (newer ++ s.trail) entries
  pub level : level_of (newer ++ s.trail) ≡ level_of s.trail
  pub reasons : ReasonsBelow bound s.trail → ReasonsBelow bound (newer ++ s.trail)
