-- Tables of rows of words.
use Rattle.std.specs.Prelude.{◌≡◌, ◌≢◌, ℕ, ◌<◌, ◌≤◌, List, [], length, get_or, slice_index}

-- the words of row r
abbrev pub words_at : List (List ℕ) → ℕ → List ℕ
words_at rows r = get_or rows r []

-- no row but this one changed, and it has as many words as before
pub record IsChangedAt (row : ℕ) (old new : List (List ℕ)) : Type 0 where
  pub rows : length new ≡ length old
  pub others : (r : ℕ) → r ≢ row → words_at new r ≡ words_at old r
  pub words : length (words_at new row) ≡ length (words_at old row)

-- each word is zero but those from place `low` up to place `high`
pub record IsZeroOutside (words : List ℕ) (low high : ℕ) : Type 0 where
  pub order : low ≤ high
  pub within : high ≤ length words
  pub before : (i : ℕ) → i < low → slice_index words i ≡ 0
  pub after : (i : ℕ) → high ≤ i → slice_index words i ≡ 0

-- each word but that at the place is as it was
abbrev pub AreOtherWords : ℕ → List ℕ → List ℕ → Type 0
AreOtherWords place old new = (i : ℕ) → i ≢ place → slice_index new i ≡ slice_index old i
