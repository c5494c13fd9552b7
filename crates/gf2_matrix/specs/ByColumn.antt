-- Parts by columns.
use Rattle.std.specs.Prelude.{◌≡◌, ℕ, ◌+◌, ◌-◌, ◌<◌, ◌≤◌, Bool, true, false, ◌&&◌, List, length, Option, Some, None, slice_index, slice_index_or}
use Rattle.cx_base.specs.Literals.{Literal, differ}
use Rattle.std.specs.List.{count_by}
use Rattle.gf2_rows.specs.Bits.{bit_of, bits_of}
use Rattle.gf2_rows.specs.Tables.{words_at}
use Rattle.gf2_matrix.specs.declared.packed.PackedRow.{PackedRow}
use Rattle.gf2_matrix.specs.declared.by_column.ByColumn.{ByColumn}
use Rattle.gf2_matrix.specs.Views.{words_for}
use Rattle.gf2_matrix.specs.Packed.{Window, window_at, start, IsSized, IsMatrix}

-- each set has so many words
abbrev pub AreSized : ℕ → List (List ℕ) → Type 0
AreSized words sets = (i : ℕ) → i < length sets → length (words_at sets i) ≡ words

-- no set has a row
abbrev pub AreClear : List (List ℕ) → Type 0
AreClear sets = (i m : ℕ) → i < length sets → bit_of (words_at sets i) m ≡ false

-- the chosen rows are turned over in the first n sets, where the bits have the column
pub record AreTurned (chosen : ℕ → Bool) (bits : List ℕ) (first : ℕ) (old new : List (List ℕ)) (n : ℕ) : Type 0 where
  pub long : length new ≡ length old
  pub same : (i : ℕ) → length (words_at new i) ≡ length (words_at old i)
  pub done : (i m : ℕ) → i < n → i < length old → bit_of (words_at new i) m ≡ differ (bit_of (words_at old i) m) (bit_of bits (first + i) && chosen m)
  pub left : (i : ℕ) → n ≤ i → words_at new i ≡ words_at old i

-- one of the first n columns, where the bits have it, if they have any
abbrev pub IsColumnOf : List ℕ → ℕ → ℕ → Option ℕ → Type 0
IsColumnOf bits first n None = (i : ℕ) → i < n → bit_of bits (first + i) ≡ false
IsColumnOf bits first n (Some i) = (i < n) × (bit_of bits (first + i) ≡ true)

-- how many rows the set has
abbrev pub set_size : List ℕ → ℕ
set_size set = count_by (λ b. b) (bits_of set)

-- of the columns that the bits have, of which the first has bit `first`, none has fewer rows
abbrev pub IsRarestOf : List ℕ → ℕ → List (List ℕ) → Option ℕ → Type 0
IsRarestOf bits first sets found =
    (i j : ℕ) → found ≡ Some i → j < length sets → bit_of bits (first + j) ≡ true → set_size (words_at sets i) ≤ set_size (words_at sets j)

-- the rows of the window's numbers are there, and have its words
pub record HaveRows (w : Window) (rows : List PackedRow) : Type 0 where
  pub low : (m : ℕ) → m < length w.numbers → 1 ≤ slice_index w.numbers m
  pub high : (m : ℕ) → m < length w.numbers → slice_index w.numbers m ≤ length rows
  pub sized : (m : ℕ) (d : PackedRow) → m < length w.numbers → IsSized w (slice_index_or rows (slice_index w.numbers m - 1) d)

-- the set of each column has the rows that have the column, and no others
pub record IsByColumn (w : Window) (rows : List PackedRow) (c : ByColumn) : Type 0 where
  pub count : length c.sets ≡ length w.columns
  pub sized : AreSized (words_for (length w.numbers)) c.sets
  pub room : length c.chosen.items ≡ words_for (length w.numbers)
  pub bits : (i m k : ℕ) (e : PackedRow) → i < length w.columns → m < length w.numbers → slice_index w.numbers m ≡ k + 1
      → bit_of (words_at c.sets i) m ≡ bit_of (slice_index_or rows k e).bits (start w + i)
  pub past : (i m : ℕ) → i < length w.columns → length w.numbers ≤ m → bit_of (words_at c.sets i) m ≡ false

-- the first n windows by columns
pub record AreByColumn (windows : List Window) (rows : List PackedRow) (by_columns : List ByColumn) (n : ℕ) : Type 0 where
  pub count : length by_columns ≡ n
  pub each : (p : ℕ) (d : ByColumn) → p < n → IsByColumn (window_at windows p) rows (slice_index_or by_columns p d)

-- a matrix, and its parts by columns
pub record IsMatrixByColumn (vars : ℕ) (given : List (List Literal)) (columns places : List ℕ) (windows : List Window) (rows spares : List PackedRow) (no_columns : List ℕ) (by_columns : List ByColumn) : Type 0 where
  pub matrix : IsMatrix vars given columns places windows rows spares no_columns
  pub by_column : AreByColumn windows rows by_columns (length windows)
