-- Parity rows over a part of the values: what it takes that nothing more follows from them.
use Rattle.std.specs.Prelude.{◌≡◌, ◌≢◌, ℕ, ◌<◌, Bool, true, false, not, List, length, slice_index_or, slice_set, Option, Some, None, ◌⊎◌}
use Rattle.cx_base.specs.Literals.{differ}

-- the value at a position, and what a part of the values has there
abbrev pub value_at : List Bool → ℕ → Bool
value_at values x = slice_index_or values x false

abbrev pub part_at : List (Option Bool) → ℕ → Option Bool
part_at part x = slice_index_or part x None

-- the values are the part's, where it has one
abbrev pub Agrees : List (Option Bool) → List Bool → Type 0
Agrees part values = (x : ℕ) (b : Bool) → part_at part x ≡ Some b → value_at values x ≡ b

-- all values that agree with the part meet the row
abbrev pub IsFinished : ℕ → (ℕ → List Bool → Bool) → (ℕ → Bool) → List (Option Bool) → ℕ → Type 0
IsFinished width total right part i = (v : List Bool) → length v ≡ width → Agrees part v → total i v ≡ right i

-- the row has an unassigned basic column, which none of the other rows has, and another unassigned column
pub record IsUnfinished (rows width : ℕ) (has : ℕ → ℕ → Bool) (part : List (Option Bool)) (i basic other : ℕ) : Type 0 where
  pub basic_in : basic < width
  pub has_basic : has i basic ≡ true
  pub basic_open : part_at part basic ≡ None
  pub alone : (j : ℕ) → j < rows → j ≢ i → has j basic ≡ false
  pub other_in : other < width
  pub has_other : has i other ≡ true
  pub other_open : part_at part other ≡ None
  pub apart : other ≢ basic

-- each row is finished or has two such columns
abbrev pub IsQuiet : ℕ → ℕ → (ℕ → ℕ → Bool) → (ℕ → List Bool → Bool) → (ℕ → Bool) → List (Option Bool) → (ℕ → ℕ) → (ℕ → ℕ) → Type 0
IsQuiet rows width has total right part basic other =
    (i : ℕ) → i < rows → IsFinished width total right part i ⊎ IsUnfinished rows width has part i (basic i) (other i)
