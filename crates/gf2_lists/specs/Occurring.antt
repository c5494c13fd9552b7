-- The variables that rows have.
use Rattle.std.specs.Prelude.{◌≡◌, ℕ, ◌+◌, ◌-◌, ◌<◌, Bool, true, false, List, length, slice_index, slice_index_or}
use Rattle.parity_engine.specs.Written.{AreRising}
use Rattle.gf2_lists.specs.declared.row.ListedRow.{ListedRow}
use Rattle.gf2_lists.specs.Listed.{vars_at}

-- the variables of the first n rows are marked
pub record HasMarks (vars : ℕ) (rows : List ListedRow) (marks : List Bool) (n : ℕ) : Type 0 where
  pub long : length marks ≡ vars
  pub marked : (r i : ℕ) → r < n → i < length (vars_at rows r) → slice_index_or marks (slice_index (vars_at rows r) i - 1) false ≡ true

-- of the first n variables each marked one is listed
pub record AreMarked (marks : List Bool) (columns : List ℕ) (n : ℕ) : Type 0 where
  pub rising : AreRising 1 n columns
  pub all : (x : ℕ) → x < n → slice_index_or marks x false ≡ true → (i : ℕ) × (i < length columns) × (slice_index columns i ≡ x + 1)

-- each variable of a row has a column
abbrev pub HaveColumns : List ListedRow → List ℕ → Type 0
HaveColumns rows columns = (r i : ℕ) → r < length rows → i < length (vars_at rows r) → (k : ℕ) × (k < length columns) × (slice_index columns k ≡ slice_index (vars_at rows r) i)
