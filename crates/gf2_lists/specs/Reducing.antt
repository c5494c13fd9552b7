-- Rows without the first variables of others.
use Rattle.std.specs.Prelude.{◌≡◌, ◌⊎◌, ℕ, ◌+◌, ◌-◌, ◌<◌, Bool, List, length, slice_index}
use Rattle.parity_engine.specs.Written.{AreRising}
use Rattle.gf2_lists.specs.declared.row.ListedRow.{ListedRow}
use Rattle.gf2_lists.specs.Sums.{excess}
use Rattle.gf2_lists.specs.Listed.{vars_at, right_at, AreMetBut}

-- the first variable of the row is that at x, from 0
abbrev pub IsFirst : List ListedRow → ℕ → ℕ → Type 0
IsFirst rows r x = slice_index (vars_at rows r) 0 ≡ x + 1

-- where a variable has the number of a row, from 1, it is that row's first
abbrev pub OwnFirsts : List ℕ → List ListedRow → Type 0
OwnFirsts owners rows = (x r : ℕ) → x < length owners → slice_index owners x ≡ r + 1 → (r < length rows) × IsFirst rows r x

-- no variable of the list has a number but this one
abbrev pub IsClear : List ℕ → ℕ → List ℕ → Type 0
IsClear owners own list = (i : ℕ) → i < length list → (slice_index owners (slice_index list i - 1) ≡ 0) ⊎ (slice_index owners (slice_index list i - 1) ≡ own)

-- the row with others added until it has the first variable of none; one that is its own stays first
pub record IsReduced (owners : List ℕ) (rows : List ListedRow) (row : ℕ) (vars : List ℕ) (right : Bool) : Type 0 where
  pub rises : AreRising 1 (length owners) vars
  pub same : (v : List Bool) → AreMetBut rows row v → excess vars right v ≡ excess (vars_at rows row) (right_at rows row) v
  pub clear : IsClear owners (row + 1) vars
  pub own : (x : ℕ) → x < length owners → slice_index owners x ≡ row + 1 → slice_index vars 0 ≡ x + 1
