-- Words of which few are not zero, kept with their places.
use Rattle.std.specs.Prelude.{◌≡◌, ℕ, zero, suc, ◌+◌, ◌-◌, ◌++◌, ◌*◌, ◌/◌, ◌%◌, ◌<◌, ◌≤◌, ◌^◌, Bool, ◌&&◌, eqb, min, List, length, replicate, slice_index, slice_set, Option, Some, None, MatchOption}
use Rattle.std.specs.Slice.Scan.{HoldsNowhere, IsFirstPlace}
use Rattle.cx_base.specs.Literals.{differ}
use Rattle.gf2_rows.specs.declared.few.TheConstants.{FEW}
use Rattle.gf2_rows.specs.Bits.{word_bit, bit_of}

-- `len` words that are zero, but for `count` ones that are put at their places
unfoldable pub laid_out : ℕ → ℕ → List ℕ → List ℕ → List ℕ
laid_out len zero places words = replicate len 0
laid_out len (suc n) places words = slice_set (laid_out len n places words) (slice_index places n) (slice_index words n)

-- these words, and zeros up to `len`
abbrev pub padded : ℕ → List ℕ → List ℕ
padded len words = words ++ replicate (len - length words) 0

-- the places of `count` words are different ones below `len`
pub record AreFew (len count : ℕ) (places : List ℕ) : Type 0 where
  pub small : len < 2 ^ 32
  pub room : count ≤ FEW
  pub within : (i : ℕ) → i < count → slice_index places i < len
  pub apart : (i j : ℕ) → i < count → j < count → slice_index places i ≡ slice_index places j → i ≡ j

-- the first place from `from` on, and below `to`, where P holds
abbrev pub FirstFrom : (ℕ → Bool) → ℕ → ℕ → Option ℕ → Type 0
FirstFrom P from to result = MatchOption result (HoldsNowhere P from to) (λ k. (k < to) × IsFirstPlace P from to k)

-- the less of two places that may be missing
abbrev pub least_of : Option ℕ → Option ℕ → Option ℕ
least_of None b = b
least_of (Some x) None = Some x
least_of (Some x) (Some y) = Some (min x y)

-- whether position k is set in the word at `place`
abbrev pub is_bit_in : ℕ → ℕ → ℕ → Bool
is_bit_in word place k = eqb (k / 64) place && word_bit word (k % 64)

-- the words from `low` up to `high` are added, and no other
pub record AddsWithin (old words : List ℕ) (low high : ℕ) (new : List ℕ) : Type 0 where
  pub len : length new ≡ length old
  pub added : (k : ℕ) → 64 * low ≤ k → k < 64 * high → bit_of new k ≡ differ (bit_of old k) (bit_of words k)
  pub before : (k : ℕ) → k < 64 * low → bit_of new k ≡ bit_of old k
  pub after : (k : ℕ) → 64 * high ≤ k → bit_of new k ≡ bit_of old k

-- the words are added to those of a list from place `start` on, and no other changes
pub record AddsPart (old : List ℕ) (start : ℕ) (words new : List ℕ) : Type 0 where
  pub len : length new ≡ length old
  pub added : (k : ℕ) → k < 64 * length words → bit_of new (64 * start + k) ≡ differ (bit_of old (64 * start + k)) (bit_of words k)
  pub before : (i : ℕ) → i < start → slice_index new i ≡ slice_index old i
  pub after : (i : ℕ) → start + length words ≤ i → slice_index new i ≡ slice_index old i
