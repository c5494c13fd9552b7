-- Rows as lists of their variables.
use Rattle.std.specs.Prelude.{◌≡◌, ◌≢◌, ℕ, ◌<◌, Bool, false, List, [], map, length, slice_index, slice_index_or}
use Rattle.parity_engine.specs.Written.{AreRising}
use Rattle.gf2_lists.specs.declared.row.ListedRow.{ListedRow}
use Rattle.gf2_lists.specs.Sums.{excess}

abbrev pub vars_at : List ListedRow → ℕ → List ℕ
vars_at rows i = slice_index_or (map (λ (r : ListedRow). r.vars.items) rows) i []

abbrev pub right_at : List ListedRow → ℕ → Bool
right_at rows i = slice_index_or (map (λ (r : ListedRow). r.right) rows) i false

-- the variables of each row are among n, and rise
abbrev pub AreListed : ℕ → List ListedRow → Type 0
AreListed n rows = (i : ℕ) → i < length rows → AreRising 1 n (vars_at rows i)

-- the values meet the row
abbrev pub IsMet : List ListedRow → ℕ → List Bool → Type 0
IsMet rows j v = excess (vars_at rows j) (right_at rows j) v ≡ false

abbrev pub AllMet : List ListedRow → List Bool → Type 0
AllMet rows v = (j : ℕ) → j < length rows → IsMet rows j v

-- the values meet each row but one
abbrev pub AreMetBut : List ListedRow → ℕ → List Bool → Type 0
AreMetBut rows row v = (j : ℕ) → j < length rows → j ≢ row → IsMet rows j v

-- no other row has the first variable of the row
abbrev pub HasOwnFirst : List ListedRow → ℕ → Type 0
HasOwnFirst rows r = (j i : ℕ) → j < length rows → j ≢ r → i < length (vars_at rows j) → slice_index (vars_at rows j) i ≢ slice_index (vars_at rows r) 0
