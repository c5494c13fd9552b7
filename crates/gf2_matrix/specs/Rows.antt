-- Rows whose words are kept in tables, and what changes one of them.
use Rattle.std.specs.Prelude.{◌≡◌, ◌≢◌, ℕ, ◌<◌, Bool, true, false, cond, nat_eq, List, map, length, slice_index_or, take}
use Rattle.std.specs.List.{range_with_len}
use Rattle.cx_base.specs.Literals.{differ}
use Rattle.gf2_rows.specs.Bits.{bit_of}
use Rattle.gf2_rows.specs.Tables.{words_at}
use Rattle.gf2_matrix.specs.declared.packed.PackedRow.{PackedRow}
use Rattle.gf2_matrix.specs.declared.row_tables.RowHead.{RowHead}
use Rattle.gf2_matrix.specs.Stretches.{IsSplit, sources_in}

abbrev pub no_head : RowHead
no_head = record { part = 0; split = 0; right = false }

-- the head of an empty row of the part, whose bits have so many words
abbrev pub empty_head : ℕ → ℕ → RowHead
empty_head split part = record { part = part; split = split; right = true }

-- row i of the heads and the tables
abbrev pub split_at : List RowHead → ℕ → ℕ
split_at heads i = (slice_index_or heads i no_head).split

abbrev pub row_of : List RowHead → List (List ℕ) → List (List ℕ) → ℕ → PackedRow
row_of heads words apart i =
    record {
      part = (slice_index_or heads i no_head).part;
      bits = take (split_at heads i) (words_at words i);
      right = (slice_index_or heads i no_head).right;
      sources = sources_in (split_at heads i) (words_at words i) (words_at apart i);
    }

abbrev pub rows_of : List RowHead → List (List ℕ) → List (List ℕ) → List PackedRow
rows_of heads words apart = map (row_of heads words apart) (range_with_len 0 (length heads))

-- the tables have a row for each head
pub record AreTables (heads : List RowHead) (words apart : List (List ℕ)) : Type 0 where
  pub words_count : length words ≡ length heads
  pub apart_count : length apart ≡ length heads
  pub split : (i : ℕ) → i < length heads → IsSplit (split_at heads i) (words_at words i) (words_at apart i)

-- no row but this one has changed
pub record IsOnlyChange (row : ℕ) (old new : List PackedRow) : Type 0 where
  pub long : length new ≡ length old
  pub others : (j : ℕ) (d : PackedRow) → j ≢ row → slice_index_or new j d ≡ slice_index_or old j d

-- the bits that `turned` tells are turned over, and the right side if `turns_right`
pub record IsTurnedRow (turned : ℕ → Bool) (turns_right : Bool) (old new : PackedRow) : Type 0 where
  pub part : new.part ≡ old.part
  pub long : length new.bits ≡ length old.bits
  pub bits : (k : ℕ) → bit_of new.bits k ≡ differ (bit_of old.bits k) (turned k)
  pub right : new.right ≡ differ old.right turns_right
  pub sources : new.sources ≡ old.sources

-- the source at the place is there
pub record IsSourcedRow (place : ℕ) (old new : PackedRow) : Type 0 where
  pub part : new.part ≡ old.part
  pub bits : new.bits ≡ old.bits
  pub right : new.right ≡ old.right
  pub long : length new.sources ≡ length old.sources
  pub sources : (k : ℕ) → bit_of new.sources k ≡ cond (nat_eq k place) true (bit_of old.sources k)
