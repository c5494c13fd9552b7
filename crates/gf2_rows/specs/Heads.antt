-- What a table keeps: heads, and a pool of words.
use Rattle.std.specs.Prelude.{◌≡◌, ◌≢◌, ℕ, ◌+◌, ◌*◌, ◌<◌, ◌≤◌, ◌++◌, Bool, true, false, List, [], length, map, take, drop, get_or, slice_index, sum_by, Option, Some, None, ◌⊎◌}
use Rattle.gf2_rows.specs.declared.few.TheConstants.{FEW}
use Rattle.gf2_rows.specs.declared.head.Layout.{Layout}
use Rattle.gf2_rows.specs.declared.head.Layout.TheVariants.{Few, Short, Whole}
use Rattle.gf2_rows.specs.declared.head.TableHead.{TableHead}
use Rattle.gf2_rows.specs.Few.{padded}

-- a row's words: the few, or those laid out from a place of the pool on, and zeros after them where the row is longer
abbrev pub words_from : List ℕ → List ℕ → Layout → List ℕ
words_from pool few Few = few
words_from pool few (Short start extent) = padded (length few) (take extent (drop start pool))
words_from pool few (Whole start) = take (length few) (drop start pool)

abbrev pub row_in : List ℕ → TableHead → List ℕ
row_in pool h = words_from pool h.few h.layout

abbrev pub rows_in : List ℕ → List TableHead → List (List ℕ)
rows_in pool heads = map (row_in pool) heads

-- where a row begins in the pool, once it is laid out
abbrev pub begin_of : Layout → Option ℕ
begin_of Few = None
begin_of (Short start extent) = Some start
begin_of (Whole start) = Some start

-- the words that are laid out
abbrev pub extent_in : List ℕ → Layout → ℕ
extent_in few Few = 0
extent_in few (Short start extent) = extent
extent_in few (Whole start) = length few

abbrev pub is_whole : Layout → Bool
is_whole Few = false
is_whole (Short start extent) = false
is_whole (Whole start) = true

-- the room that a row may need yet: it is laid out twice at most
abbrev pub room_in : List ℕ → Layout → ℕ
room_in few Few = 2 * length few
room_in few (Short start extent) = length few
room_in few (Whole start) = 0

abbrev pub room_for : TableHead → ℕ
room_for h = room_in h.few h.layout

-- the words that the pool has, and those that it may have to take yet
abbrev pub need_of : List ℕ → List TableHead → ℕ
need_of pool heads = length pool + sum_by room_for heads

-- a row of no words
abbrev pub blank : TableHead
blank = record { layout = Few; few = [] }

abbrev pub layout_at : List TableHead → ℕ → Layout
layout_at heads r = (get_or heads r blank).layout

abbrev pub begin_at : List TableHead → ℕ → Option ℕ
begin_at heads r = begin_of (layout_at heads r)

abbrev pub width_at : List TableHead → ℕ → ℕ
width_at heads r = length ((get_or heads r blank).few)

abbrev pub extent_at : List TableHead → ℕ → ℕ
extent_at heads r = extent_in ((get_or heads r blank).few) (layout_at heads r)

-- a row of which not all words are laid out is longer than those
abbrev pub IsShort : List ℕ → Layout → Type 0
IsShort few layout = (s n : ℕ) → layout ≡ Short s n → n < length few

-- the words that are laid out are within the pool and apart, and there is room for the others
pub record AreRows (capacity : ℕ) (pool : List ℕ) (heads : List TableHead) : Type 0 where
  pub room : need_of pool heads ≤ capacity
  pub short : (r : ℕ) → IsShort ((get_or heads r blank).few) (layout_at heads r)
  pub within : (r s : ℕ) → begin_at heads r ≡ Some s → s + extent_at heads r ≤ length pool
  pub apart : (q r s t : ℕ) → q ≢ r → begin_at heads q ≡ Some s → begin_at heads r ≡ Some t → (s + extent_at heads q ≤ t) ⊎ (t + extent_at heads r ≤ s)

-- a row that is not laid out whole has many words
abbrev pub AreWide : List TableHead → Type 0
AreWide heads = (r : ℕ) → r < length heads → is_whole (layout_at heads r) ≡ false → FEW < width_at heads r

-- what a table keeps
pub record AreKept (capacity : ℕ) (pool : List ℕ) (heads : List TableHead) : Type 0 where
  pub rows : AreRows capacity pool heads
  pub wide : AreWide heads

-- a row is laid out at the end of the pool, up to its last word that is not zero, and needs no more room than before
pub record IsLaidAtEnd (pool : List ℕ) (old : TableHead) (after : List ℕ) (new : TableHead) : Type 0 where
  pub few : new.few ≡ old.few
  pub begin : begin_of new.layout ≡ Some (length pool)
  pub short : IsShort new.few new.layout
  pub words : after ≡ pool ++ take (extent_in new.few new.layout) (row_in pool old)
  pub zeros : (i : ℕ) → extent_in new.few new.layout ≤ i → slice_index (row_in pool old) i ≡ 0
  pub room : extent_in new.few new.layout + room_for new ≤ room_for old

-- rows keep their widths, and those that are laid out whole stay so
abbrev pub StayLaid : List TableHead → List TableHead → Type 0
StayLaid old new = (r : ℕ) → (width_at new r ≡ width_at old r) × (is_whole (layout_at old r) ≡ true → is_whole (layout_at new r) ≡ true)
