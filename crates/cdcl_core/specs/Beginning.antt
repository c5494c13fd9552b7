-- How a search begins.
use Rattle.std.specs.Prelude.{◌≡◌, ◌≢◌, Bool, [], List, Option, Some, None}
use Rattle.cx_base.specs.Problem.{Problem}
use Rattle.cx_base.specs.declared.steps.LogEvent.{LogEvent}
use Rattle.parity_engine.specs.State.{State}
use Rattle.parity_engine.specs.declared.state.Mood.TheVariants.{Broken}
use Rattle.cdcl_search.specs.declared.state.SearchState.{SearchState}
use Rattle.cdcl_search.specs.Ties.{SearchStands}
use Rattle.cdcl_core.specs.Results.{RefutesIn}

-- the search is at level 0, with no counted conflict
pub record IsAtStart (formula : Problem) (told : Option (List LogEvent)) (c : SearchState) (e : State) : Type 0 where
  pub stands : SearchStands formula c e [] told
  pub unbroken : e.mood ≢ Broken
  pub level : c.trail.level ≡ 0
  pub none : c.conflicts ≡ 0

-- the search, which may tidy, is at its start with this engine; or the log is ended with no mark
abbrev pub SearchBegins : {P : Type 0} → (P → State) → Bool → Problem → Option (List LogEvent) → SearchState → Option P → Type 0
SearchBegins state tidies formula told c (Some engine) = IsAtStart formula told c (state engine) × (c.tidies ≡ tidies)
SearchBegins state tidies formula told c None = RefutesIn tidies formula 1 told []
