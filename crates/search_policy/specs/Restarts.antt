-- When the search begins again at level 0.
use Rattle.std.specs.Prelude.{ℕ, ◌+◌, ◌-◌, ◌*◌, ◌/◌, ◌^◌, ◌≡◌, ◌<◌, ◌≤◌}

-- v is the i-th of Luby's numbers 1 1 2 1 1 2 4 1 1 2 1 1 2 4 8 ..: each block ends with a power of two, at a place that is
-- twice the power less 1, and what is before its end is what all began with
pub data IsLuby : ℕ → ℕ → Type 0 where
  ends : {i v : ℕ} (k : ℕ) → i + 1 ≡ 2 * 2 ^ k → v ≡ 2 ^ k → IsLuby i v
  repeats : {i v : ℕ} (k : ℕ) → 2 ^ k ≤ i → i + 1 < 2 * 2 ^ k → IsLuby (i - 2 ^ k + 1) v → IsLuby i v

-- this many conflicts are enough for the i-th restart: a hundred for each one of the i-th number
abbrev pub IsDue : ℕ → ℕ → Type 0
IsDue since i = (v : ℕ) × IsLuby i v × (v ≤ since / 100)
