-- The words of a row's bits and of its sources, which follow one another where all are few.
use Rattle.std.specs.Prelude.{◌≡◌, ℕ, ◌+◌, ◌<◌, ◌≤◌, cond, nat_le, List, ◌++◌, length, drop, slice_index}
use Rattle.gf2_rows.specs.declared.few.TheConstants.{FEW}

-- how many words follow one another, of so many of bits and of sources, and how many are apart
abbrev pub first_count : ℕ → ℕ → ℕ
first_count bits sources = cond (nat_le (bits + sources) FEW) (bits + sources) bits

abbrev pub apart_count : ℕ → ℕ → ℕ
apart_count bits sources = cond (nat_le (bits + sources) FEW) 0 sources

-- the bits are the words up to `split`, and the sources the words after them, and those apart: none where all are few
pub record IsSplit (split : ℕ) (words apart : List ℕ) : Type 0 where
  pub within : split ≤ length words
  pub few : length words + length apart ≤ FEW → length apart ≡ 0
  pub many : FEW < length words + length apart → length words ≡ split

abbrev pub sources_in : ℕ → List ℕ → List ℕ → List ℕ
sources_in split words apart = drop split words ++ apart

-- the first n widths of bits and of sources are those of words that follow one another and that are apart
pub record AreJoined (bits sources new_bits new_sources : List ℕ) (n : ℕ) : Type 0 where
  pub long : length new_bits ≡ length bits
  pub sources_long : length new_sources ≡ length sources
  pub first : (k : ℕ) → k < n → slice_index new_bits k ≡ first_count (slice_index bits k) (slice_index sources k)
  pub apart : (k : ℕ) → k < n → slice_index new_sources k ≡ apart_count (slice_index bits k) (slice_index sources k)
  pub left : (k : ℕ) → n ≤ k → slice_index new_bits k ≡ slice_index bits k
  pub sources_left : (k : ℕ) → n ≤ k → slice_index new_sources k ≡ slice_index sources k
