-- The bits of one row, and what they tell of its columns.
use Rattle.std.specs.Prelude.{◌≡◌, ℕ, ◌+◌, ◌-◌, ◌*◌, ◌/◌, ◌<◌, ◌≤◌, ◌^◌, ◌&&◌, Bool, true, false, List, length, take, drop, slice_index, Option, Some, None, refl}
use Rattle.std.specs.Coded.{Coded, code_by, coded×, coded_ℕ, coded_bool, coded_list}
use Rattle.std.specs.Simd.Lanes.{zip2}
use Rattle.cx_base.specs.Parity.{odd_sum}
use Rattle.gf2_rows.specs.Bits.{bit_of, bits_of, is_skipped}
use Rattle.gf2_matrix.specs.Totals.{total}
use Rattle.gf2_matrix.specs.Views.{is_bit_of, words_for}
use Rattle.gf2_matrix.specs.Content.{Content, HoldsValues, equation, has, row_at}

-- the columns of the row's part, the first and how many, its words, and its right side
pub record Bits : Type 0 where
  pub base : ℕ
  pub columns : ℕ
  pub words : List ℕ
  pub right : Bool

abbrev pub bits_code : Coded Bits
bits_code =
    code_by (ℕ × (ℕ × (List ℕ × Bool))) (coded× coded_ℕ (coded× coded_ℕ (coded× (coded_list coded_ℕ) coded_bool)))
    (λ b. (b.base, (b.columns, (b.words, b.right)))) (λ p. record { base = p.0; columns = p.1.0; words = p.1.1.0; right = p.1.1.1 }) (λ _. refl)

abbrev pub bits : ℕ → ℕ → List ℕ → Bool → Bits
bits base columns words right = record { base = base; columns = columns; words = words; right = right }

-- the word of a mask over all columns that goes with the first word, and that after the last one's
abbrev pub first : Bits → ℕ
first b = b.base / 64

abbrev pub reach : Bits → ℕ
reach b = first b + length b.words

pub record AreBits (base columns : ℕ) (words : List ℕ) : Type 0 where
  pub small : 64 * (base / 64 + length words) < 2 ^ 32
  pub few : base + columns < 2 ^ 32

-- whether the row has column k
abbrev pub has_bit : Bits → ℕ → Bool
has_bit b k = is_bit_of (64 * first b) b.words k

-- the sum of the bits that the mask has too, modulo two
abbrev pub sum_with : Bits → List ℕ → Bool
sum_with b mask = odd_sum (zip2 ◌&&◌ (bits_of b.words) (bits_of (take (length b.words) (drop (first b) mask))))

-- the bits are those of row r
pub record AreBitsOf (c : Content) (r : ℕ) (b : Bits) : Type 0 where
  pub room : reach b ≤ words_for (length c.columns)
  pub inside : b.base + b.columns ≤ length c.columns
  pub bits : (k : ℕ) → k < length c.columns → has_bit b k ≡ has (row_at c.rows r) (slice_index c.columns k - 1)
  pub within : (k : ℕ) → has_bit b k ≡ true → (b.base ≤ k) × (k < b.base + b.columns)
  pub right : b.right ≡ (row_at c.rows r).right
  pub sum : (truths : List ℕ) (values : List Bool) → length truths ≡ words_for (length c.columns) → length values ≡ c.vars → HoldsValues c truths values
      → sum_with b truths ≡ total (equation (row_at c.rows r)) values

-- a column of the row outside the mask but for one to skip, or none where there is none
abbrev pub IsBitOutside : Bits → List ℕ → Option ℕ → Option ℕ → Type 0
IsBitOutside b mask skip None = (k : ℕ) → bit_of mask k ≡ false → is_skipped skip k ≡ false → has_bit b k ≡ false
IsBitOutside b mask skip (Some k) = (bit_of mask k ≡ false) × (is_skipped skip k ≡ false) × (has_bit b k ≡ true)

-- the row's first column from `from` on, or none where it has none from there on
abbrev pub IsNextBit : Bits → ℕ → Option ℕ → Type 0
IsNextBit b from None = (k : ℕ) → from ≤ k → has_bit b k ≡ false
IsNextBit b from (Some k) = (from ≤ k) × (has_bit b k ≡ true) × ((j : ℕ) → from ≤ j → j < k → has_bit b j ≡ false)
