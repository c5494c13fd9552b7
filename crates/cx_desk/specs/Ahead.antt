-- What reading ahead does.
use Rattle.std.specs.Prelude.{◌≡◌, ◌≤◌, ℕ, ◌++◌, length, Result, MatchResult}
use Rattle.cx_desk.specs.declared.desk.Slot.{Slot}
use Rattle.cx_desk.specs.declared.ahead.AheadErr.{AheadErr}
use Rattle.cx_desk.specs.declared.ahead.AheadErr.TheVariants.{Memory, Failed}
use Rattle.cx_desk.specs.Outside.{Bytes, Outside}
use Rattle.cx_desk.specs.Gave.{piece}
use Rattle.cx_desk.specs.Calls.{taken, ReadFaulted}

-- n bytes that the slot gave come after those that were there
pub record CameAfter (slot : Slot) (most : ℕ) (before : Bytes) (old : Outside) (n : ℕ) (after : Bytes) (new : Outside) : Type 0 where
  pub came : Bytes
  pub count : length came ≡ n
  pub few : n ≤ most
  pub after_is : after ≡ before ++ came
  pub took : new ≡ taken slot (piece came) old

-- nothing was read: there was no memory, or a fault was counted
abbrev pub NoneCame : AheadErr → Outside → Outside → Type 0
NoneCame Memory old new = new ≡ old
NoneCame Failed old new = ReadFaulted old new

abbrev pub ReadsAhead : Slot → ℕ → Bytes → Outside → Result ℕ AheadErr → Bytes → Outside → Type 0
ReadsAhead slot most before old result after new =
    MatchResult result (λ n. CameAfter slot most before old n after new) (λ e. (after ≡ before) × NoneCame e old new)
