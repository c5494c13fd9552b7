-- Going back to an earlier level.
use Rattle.std.specs.Prelude.{◌≡◌, ◌≢◌, ℕ, List, length}
use Rattle.cx_base.specs.Literals.{Literal}
use Rattle.cx_base.specs.Problem.{Problem}
use Rattle.cx_trail.specs.Sequence.{TakesBack}
use Rattle.parity_engine.specs.State.{State}
use Rattle.parity_engine.specs.declared.state.Mood.TheVariants.{Broken}
use Rattle.search_steps.specs.Search.{Search, IsSearchIn, jumped}
use Rattle.cdcl_search.specs.declared.state.SearchState.{SearchState}
use Rattle.cdcl_search.specs.Ties.{Ties, IsWatched}
use Rattle.cdcl_core.specs.Entering.{HasCounts}

-- Whatever search fitted the code, what is left of it at that level fits it now. The trail is as it was at that level, and no row is broken.
pub record IsBackAt (formula : Problem) (level : ℕ) (old : SearchState) (e_old : State) (new : SearchState) (e_new : State) : Type 0 where
  pub ties : (rows : List (List Literal)) (s : Search) → IsSearchIn old.tidies formula e_old.parities s → Ties formula old e_old rows s → Ties formula new e_new rows (jumped s level)
  pub watched : IsWatched new.watches new.arena new.trail
  pub back : TakesBack level old.trail new.trail
  pub units : level ≡ 0 → length new.units.items ≡ length new.trail.entries
  pub counts : HasCounts new old
  pub parities : e_new.parities ≡ e_old.parities
  pub unbroken : e_new.mood ≢ Broken
