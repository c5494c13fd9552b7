-- Packed rows of bits.
use Rattle.std.specs.Prelude.{◌≡◌, ℕ, ◌*◌, ◌/◌, ◌%◌, ◌<◌, ◌≤◌, Bool, false, not, ◌&&◌, eqb, List, map, length, count_by, slice_index, Option, Some, None, MatchOption}
use Rattle.std.specs.Int.{bit_at}
use Rattle.std.specs.List.{range_with_len}

-- bit i of a word
abbrev pub word_bit : ℕ → ℕ → Bool
word_bit word i = eqb (bit_at word i) 1

-- position k of a packed row is bit k % 64 of word k / 64
abbrev pub bit_of : List ℕ → ℕ → Bool
bit_of words k = word_bit (slice_index words (k / 64)) (k % 64)

-- the bits of a packed row in order, 64 for each word
unfoldable pub bits_of : List ℕ → List Bool
bits_of words = map (bit_of words) (range_with_len 0 (64 * length words))

-- the number of ones, where it is below the limit
abbrev pub IsCountBelow : ℕ → List ℕ → Option ℕ → Type 0
IsCountBelow limit words count = MatchOption count (limit ≤ count_by (λ b. b) (bits_of words)) (λ n. (n ≡ count_by (λ b. b) (bits_of words)) × (n < limit))

-- whether k is the position to skip
abbrev pub is_skipped : Option ℕ → ℕ → Bool
is_skipped None k = false
is_skipped (Some s) k = eqb s k

-- position k is set in the row, not set in the mask, and not skipped
abbrev pub is_outside : List ℕ → List ℕ → Option ℕ → ℕ → Bool
is_outside row mask skip k = bit_of row k && (not (bit_of mask k) && not (is_skipped skip k))
