-- Elimination, as far as it has come.
use Rattle.std.specs.Prelude.{◌≡◌, ℕ, ◌+◌, ◌<◌, ◌≤◌, Bool, List, length, slice_index}
use Rattle.gf2_lists.specs.declared.row.ListedRow.{ListedRow}
use Rattle.gf2_lists.specs.Listed.{vars_at, AreListed, AllMet, HasOwnFirst}
use Rattle.gf2_lists.specs.Reducing.{IsFirst, IsClear}

-- the rows say what those before said
pub record SaySame (n : ℕ) (before rows : List ListedRow) : Type 0 where
  pub count : length rows ≡ length before
  pub listed : AreListed n rows
  pub sound : (v : List Bool) → AllMet before v → AllMet rows v
  pub complete : (v : List Bool) → AllMet rows v → AllMet before v

-- each of the last k rows has its number, from 1, at its first variable, and no other row has one
pub record AreOwners (n : ℕ) (rows : List ListedRow) (owners : List ℕ) (k : ℕ) : Type 0 where
  pub long : length owners ≡ n
  pub owned : (x r : ℕ) → x < n → slice_index owners x ≡ r + 1 → (length rows ≤ r + k) × (r < length rows) × IsFirst rows r x
  pub found : (x r : ℕ) → length rows ≤ r + k → r < length rows → IsFirst rows r x → slice_index owners x ≡ r + 1

-- the rows with their firsts among the last k variables have no first of another
abbrev pub AreClear : ℕ → List ListedRow → List ℕ → ℕ → Type 0
AreClear n rows owners k = (x r : ℕ) → x < n → n ≤ x + k → slice_index owners x ≡ r + 1 → IsClear owners (r + 1) (vars_at rows r)

-- the rows say what those before said, and none has the first variable of another
pub record AreEliminated (n : ℕ) (before rows : List ListedRow) : Type 0 where
  pub same : SaySame n before rows
  pub own : (r : ℕ) → r < length rows → HasOwnFirst rows r
