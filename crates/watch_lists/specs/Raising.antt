-- Entries for higher levels.
use Rattle.std.specs.Prelude.{ℕ, ◌+◌, ◌-◌, ◌≡◌, ◌<◌, ◌≤◌, List, length}
use Rattle.watch_lists.specs.Watching.{looked_at}

-- an entry for each level up to this one, the new ones as the last old one
pub record IsRaised (level : ℕ) (old new : List ℕ) : Type 0 where
  pub long : length new ≡ level + 1
  pub kept : (k : ℕ) → k < length old → looked_at new k ≡ looked_at old k
  pub raised : (k : ℕ) → length old ≤ k → k < length new → looked_at new k ≡ looked_at old (length old - 1)
