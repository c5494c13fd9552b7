-- An engine whose values are kept beside it.
use Rattle.std.specs.Prelude.{◌≡◌, ℕ, List, length, Option}
use Rattle.parity_engine.specs.declared.state.Held.{Held}
use Rattle.parity_engine.specs.State.{State}

-- the state has this level and these values, one for each variable
pub record IsAt (s : State) (level : ℕ) (held : List (Option Held)) : Type 0 where
  pub level_is : s.level ≡ level
  pub values_are : s.values ≡ held
  pub wide : length held ≡ s.vars
