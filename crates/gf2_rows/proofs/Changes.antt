-- A change of one row of a table.
use Rattle.std.proofs.Common.{◌≡◌, ℕ, ◌+◌, ◌-◌, ◌<◌, ◌≤◌, List, [], length, get_or, set, take, drop, sym, ap, ◌∙◌, subst, Some, ◌⊎◌, arith, inl, inr}
use Rattle.std.specs.Int.RustNames.{bit_xor}
use Rattle.std.specs.Simd.Lanes.{zip2}
use Rattle.std.proofs.lemmas.List.{get_or-set_other, length-set, set-get_or, set-set}
use Rattle.cx_base.specs.Literals.{differ}
use Rattle.gf2_rows.specs.declared.head.Layout.TheVariants.{Whole}
use Rattle.gf2_rows.specs.declared.head.TableHead.{TableHead}
use Rattle.gf2_rows.specs.Bits.{bits_of}
use Rattle.gf2_rows.specs.Few.{AddsWithin, AddsPart}
use Rattle.gf2_rows.specs.Heads.{words_from, row_in, rows_in, begin_of, extent_in, blank, layout_at, begin_at, width_at, extent_at, AreRows, AreWide, AreKept}
use Rattle.gf2_rows.specs.Tables.{words_at, IsChangedAt, IsZeroOutside}
use Rattle.gf2_rows.proofs.Adding.{adds_in_two, adds_all}
use Rattle.gf2_rows.proofs.Laying.{changed_by_set, words_set, length-rows, row_at, length-row, length-part, element, rows-set, head_changed, head_wide, row_changed, own_head}
use Rattle.gf2_rows.proofs.Parts.{added_from, word_from, set_from}

-- ---- a head changes
module _ (capacity : ℕ) (pool : List ℕ) (heads : List TableHead) (row : ℕ) (old head : TableHead) (lt : row < length heads) (at : old ≡ get_or heads row old)
    (layouts : head.layout ≡ old.layout) (widths : length (head.few) ≡ length (old.few)) (rows : AreRows capacity pool heads) where
  same : get_or heads row blank ≡ old
  same = element heads row blank old lt ∙ sym at

  pub head_rows : AreRows capacity pool (set heads row head)
  head_rows = head_changed heads row head lt (layouts ∙ sym (ap (λ h. h.layout) same)) (widths ∙ sym (ap (λ h. length (h.few)) same)) capacity pool rows

  pub head_kept : AreWide heads → AreKept capacity pool (set heads row head)
  head_kept wide = record { rows = head_rows; wide = head_wide heads row head lt (layouts ∙ sym (ap (λ h. h.layout) same)) (widths ∙ sym (ap (λ h. length (h.few)) same)) wide }

  pub old_words : words_at (rows_in pool heads) row ≡ row_in pool old
  old_words = row_at pool heads row blank lt ∙ ap (row_in pool) same

  -- the row's words did not change
  pub same_rows : head.few ≡ old.few → rows_in pool (set heads row head) ≡ rows_in pool heads
  same_rows words =
      rows-set pool heads row head
      ∙ ap (set (rows_in pool heads) row) (ap (words_from pool (head.few)) layouts ∙ ap (λ few. words_from pool few (old.layout)) words ∙ sym old_words)
      ∙ set-get_or (rows_in pool heads) row []

-- ---- one word of the pool changes
module _ (capacity : ℕ) (pool : List ℕ) (heads : List TableHead) (row start place word : ℕ) (lt : row < length heads) (begins : begin_at heads row ≡ Some start)
    (place_in : place < extent_at heads row) (rows : AreRows capacity pool heads) where
  pub place_in_pool : start + place < length pool
  place_in_pool = let r = rows.within row start begins in omega arith

  outside : (v i : ℕ) → (i < start) ⊎ (start + extent_at heads row ≤ i) → get_or (set pool (start + place) v) i 0 ≡ get_or pool i 0
  outside v i out =
      get_or-set_other pool (start + place) i v 0
      (λ e.
      let at : i ≡ start + place = e in
      elim out [
        | inl before ↦ omega arith
        | inr past ↦ omega arith
      ])

  pub word_changed : rows_in (set pool (start + place) (bit_xor (get_or pool (start + place) 0) word)) heads
      ≡ set (rows_in pool heads) row (set (words_at (rows_in pool heads) row) place (bit_xor (get_or (words_at (rows_in pool heads) row) place 0) word))
  word_changed =
      let v : ℕ = bit_xor (get_or pool (start + place) 0) word in
      let few : List ℕ = (get_or heads row blank).few in
      let its : words_at (rows_in pool heads) row ≡ row_in pool (get_or heads row blank) = row_at pool heads row blank lt in
      row_changed capacity pool (set pool (start + place) v) heads row start lt begins (length-set pool (start + place) v) (outside v) rows
      ∙ ap (set (rows_in pool heads) row)
      (set_from pool few (layout_at heads row) start place v begins (rows.within row start begins) place_in
      ∙ ap (λ w. set (row_in pool (get_or heads row blank)) place (bit_xor w word)) (sym (word_from pool few (layout_at heads row) start place begins place_in))
      ∙ ap (λ l. set l place (bit_xor (get_or l place 0) word)) (sym its))

-- ---- words are added to a part of the pool
module _ (capacity : ℕ) (pool new words : List ℕ) (heads : List TableHead) (row start low high : ℕ) (lt : row < length heads) (begins : begin_at heads row ≡ Some start)
    (same : length words ≡ length (words_at (rows_in pool heads) row)) (order : low ≤ high) (within : high ≤ extent_at heads row) (inside : high ≤ length words)
    (adds : AddsPart pool (start + low) (take (high - low) (drop low words)) new) (rows : AreRows capacity pool heads) where
  part_outside : (i : ℕ) → (i < start) ⊎ (start + extent_at heads row ≤ i) → get_or new i 0 ≡ get_or pool i 0
  part_outside i out =
      let l = length-part words (high - low) low (omega arith) in
      elim out [
        | inl before ↦ adds.before i (omega arith)
        | inr past ↦ adds.after i (omega arith)
      ]

  pub part_changed : rows_in new heads ≡ set (rows_in pool heads) row (row_in new (get_or heads row blank))
  part_changed = row_changed capacity pool new heads row start lt begins adds.len part_outside rows

  pub part_sum : AddsWithin (words_at (rows_in pool heads) row) words low high (row_in new (get_or heads row blank))
  part_sum =
      let its : words_at (rows_in pool heads) row ≡ row_in pool (get_or heads row blank) = row_at pool heads row blank lt in
      let wide : length words ≡ width_at heads row = same ∙ ap length its ∙ length-row capacity pool heads row rows in
      subst (λ l. AddsWithin l words low high (row_in new (get_or heads row blank))) (sym its)
      (added_from pool new ((get_or heads row blank).few) words (layout_at heads row) start low high begins (rows.within row start begins) (rows.short row) order within wide adds)

-- ---- sums
-- all the words that are not zero are added to a row
pub row_summed : (old : List (List ℕ)) (row : ℕ) (words new : List ℕ) (low high : ℕ) → row < length old → length words ≡ length (words_at old row) → IsZeroOutside words low high
    → AddsWithin (words_at old row) words low high new
    → IsChangedAt row old (set old row new) × (bits_of (words_at (set old row new) row) ≡ zip2 differ (bits_of (words_at old row)) (bits_of words))
row_summed old row words new low high lt same zero adds = (
  changed_by_set old row new lt adds.len,
  ap bits_of (words_set old row new lt) ∙ adds_all (words_at old row) words new low high same zero adds,
)

-- some words are added at first, and the others then
pub row_summed_in_two : (old : List (List ℕ)) (row : ℕ) (words mid new : List ℕ) (low at high : ℕ) → row < length old → low ≤ at → at ≤ high
    → AddsWithin (words_at old row) words low at mid → AddsWithin (words_at (set old row mid) row) words at high new → AddsWithin (words_at old row) words low high new
row_summed_in_two old row words mid new low at high lt order within first rest =
    let P : List ℕ → Type 0 = λ l. AddsWithin l words at high new in
    adds_in_two (words_at old row) words mid new low at high order within first (subst P (words_set old row mid lt) rest)

-- ---- a sum within a table
abbrev pub IsSummed : ℕ → List (List ℕ) → List (List ℕ) → List ℕ → Type 0
IsSummed row old new words = IsChangedAt row old new × (bits_of (words_at new row) ≡ zip2 differ (bits_of (words_at old row)) (bits_of words))

-- the words that a head has
pub head_width : (capacity : ℕ) (pool : List ℕ) (heads : List TableHead) (row : ℕ) (old : TableHead) (table : List (List ℕ)) → row < length heads → old ≡ get_or heads row old → AreRows capacity pool heads
    → rows_in pool heads ≡ table → length (words_at table row) ≡ length (old.few)
head_width capacity pool heads row old table lt at rows view =
    ap (λ t. length (words_at t row)) (sym view) ∙ ap length (row_at pool heads row blank lt) ∙ length-row capacity pool heads row rows
    ∙ ap (λ h. length (h.few)) (element heads row blank old lt ∙ sym at)

-- all is added to the few words
pub few_summed : (pool : List ℕ) (heads : List TableHead) (row : ℕ) (old head : TableHead) (table : List (List ℕ)) (words : List ℕ) (low from high : ℕ) → row < length heads → old ≡ get_or heads row old
    → rows_in pool heads ≡ table → length words ≡ length (words_at table row) → IsZeroOutside words low high → from ≡ high
    → AddsWithin (row_in pool old) words low from (row_in pool head) → IsSummed row table (rows_in pool (set heads row head)) words
few_summed pool heads row old head table words low from high lt at view same zero all adds =
    let R : List (List ℕ) = rows_in pool heads in
    let its : row_in pool old ≡ words_at R row = sym (row_at pool heads row blank lt ∙ ap (row_in pool) (element heads row blank old lt ∙ sym at)) in
    let in_rows : row < length R = omega (arith, length-rows pool heads) in
    let long : length words ≡ length (words_at R row) = same ∙ ap (λ t. length (words_at t row)) (sym view) in
    let added : AddsWithin (words_at R row) words low high (row_in pool head) =
    subst (λ k. AddsWithin (words_at R row) words low k (row_in pool head)) all (subst (λ l. AddsWithin l words low from (row_in pool head)) its adds) in
    let whole : IsSummed row R (set R row (row_in pool head)) words = row_summed R row words (row_in pool head) low high in_rows long zero added in
    subst (λ t. IsSummed row t (rows_in pool (set heads row head)) words) view
    (subst (λ t. IsSummed row R t words) (sym (rows-set pool heads row head)) whole)

-- the row is laid out whole after some were added, or was before
pub whole_summed : (pool : List ℕ) (heads : List TableHead) (row : ℕ) (old head : TableHead) (table : List (List ℕ)) (words : List ℕ) (low from high : ℕ) → row < length heads → old ≡ get_or heads row old
    → rows_in pool heads ≡ table → length words ≡ length (words_at table row) → IsZeroOutside words low high → low ≤ from → from ≤ high
    → AddsWithin (row_in pool old) words low from (row_in pool head)
    → (laid final : List (List ℕ)) (new : List ℕ) → laid ≡ rows_in pool (set heads row head) → final ≡ set laid row new → AddsWithin (words_at laid row) words from high new
    → IsSummed row table final words
whole_summed pool heads row old head table words low from high lt at view same zero order within adds laid final new laid_is final_is rest =
    let R : List (List ℕ) = rows_in pool heads in
    let mid : List ℕ = row_in pool head in
    let its : row_in pool old ≡ words_at R row = sym (row_at pool heads row blank lt ∙ ap (row_in pool) (element heads row blank old lt ∙ sym at)) in
    let in_rows : row < length R = omega (arith, length-rows pool heads) in
    let long : length words ≡ length (words_at R row) = same ∙ ap (λ t. length (words_at t row)) (sym view) in
    let between : laid ≡ set R row mid = laid_is ∙ rows-set pool heads row head in
    let first : AddsWithin (words_at R row) words low from mid = subst (λ l. AddsWithin l words low from mid) its adds in
    let second : AddsWithin (words_at (set R row mid) row) words from high new = subst (λ t. AddsWithin (words_at t row) words from high new) between rest in
    let added : AddsWithin (words_at R row) words low high new = row_summed_in_two R row words mid new low from high in_rows order within first second in
    let whole : IsSummed row R (set R row new) words = row_summed R row words new low high in_rows long zero added in
    let end : final ≡ set R row new = final_is ∙ ap (λ t. set t row new) between ∙ set-set R row mid new in
    subst (λ t. IsSummed row t final words) view (subst (λ t. IsSummed row R t words) (sym end) whole)

-- as many words as a row has
pub row_width : (capacity : ℕ) (pool words : List ℕ) (heads : List TableHead) (table : List (List ℕ)) (row : ℕ) → row < length heads → rows_in pool heads ≡ table
    → length words ≡ length (words_at table row) → AreRows capacity pool heads → length words ≡ width_at heads row
row_width capacity pool words heads table row lt view same rows =
    same ∙ ap (λ t. length (words_at t row)) (sym view) ∙ ap length (row_at pool heads row blank lt) ∙ length-row capacity pool heads row rows

pub whole_extent : (heads : List TableHead) (row start : ℕ) → layout_at heads row ≡ Whole start → extent_at heads row ≡ width_at heads row
whole_extent heads row start whole = ap (extent_in ((get_or heads row blank).few)) whole

-- all is added to a row that is laid out whole
pub pool_summed : (capacity : ℕ) (pool new words : List ℕ) (heads : List TableHead) (table : List (List ℕ)) (row start low high : ℕ) → row < length heads → layout_at heads row ≡ Whole start
    → rows_in pool heads ≡ table → length words ≡ length (words_at table row) → IsZeroOutside words low high → AddsPart pool (start + low) (take (high - low) (drop low words)) new
    → AreRows capacity pool heads → IsSummed row table (rows_in new heads) words
pool_summed capacity pool new words heads table row start low high lt whole view same zero adds rows =
    let R : List (List ℕ) = rows_in pool heads in
    let its : List ℕ = row_in new (get_or heads row blank) in
    let in_rows : row < length R = omega (arith, length-rows pool heads) in
    let long : length words ≡ length (words_at R row) = same ∙ ap (λ t. length (words_at t row)) (sym view) in
    let begins : begin_at heads row ≡ Some start = ap begin_of whole in
    let within : high ≤ extent_at heads row = omega (arith, zero.within, row_width capacity pool words heads table row lt view same rows, whole_extent heads row start whole) in
    let end : rows_in new heads ≡ set R row its = part_changed capacity pool new words heads row start low high lt begins long zero.order within zero.within adds rows in
    let added : AddsWithin (words_at R row) words low high its = part_sum capacity pool new words heads row start low high lt begins long zero.order within zero.within adds rows in
    let all : IsSummed row R (set R row its) words = row_summed R row words its low high in_rows long zero added in
    subst (λ t. IsSummed row t (rows_in new heads) words) view (subst (λ t. IsSummed row R t words) (sym end) all)

-- the words of such a row are in the pool
pub pool_room : (capacity : ℕ) (pool words : List ℕ) (heads : List TableHead) (table : List (List ℕ)) (row start : ℕ) → row < length heads → layout_at heads row ≡ Whole start
    → rows_in pool heads ≡ table → length words ≡ length (words_at table row) → AreRows capacity pool heads → start + length words ≤ length pool
pool_room capacity pool words heads table row start lt whole view same rows =
    omega (arith, rows.within row start (ap begin_of whole), row_width capacity pool words heads table row lt view same rows, whole_extent heads row start whole)

-- ---- a row is laid out, and then changed
-- the words that a row of the new head has
pub head_long : (heads : List TableHead) (row : ℕ) (head : TableHead) → row < length heads → width_at (set heads row head) row ≡ length (head.few)
head_long heads row head lt = ap (λ h. length (h.few)) (own_head heads row head lt)

-- the table is as it was
pub same_table : (capacity : ℕ) (pool : List ℕ) (heads : List TableHead) (row : ℕ) (old head : TableHead) (table laid : List (List ℕ)) → row < length heads → old ≡ get_or heads row old
    → head.layout ≡ old.layout → length (head.few) ≡ length (old.few) → AreRows capacity pool heads → rows_in pool heads ≡ table → head.few ≡ old.few
    → laid ≡ rows_in pool (set heads row head) → laid ≡ table
same_table capacity pool heads row old head table laid lt at layouts widths rows view words laid_is =
    laid_is ∙ same_rows capacity pool heads row old head lt at layouts widths rows words ∙ view

pub laid_word : (table : List (List ℕ)) (capacity : ℕ) (pool : List ℕ) (heads : List TableHead) (row start place word : ℕ) → row < length table → place < extent_at heads row
    → rows_in pool heads ≡ table → begin_at heads row ≡ Some start → AreRows capacity pool heads
    → (start + place < length pool)
    × (rows_in (set pool (start + place) (bit_xor (get_or pool (start + place) 0) word)) heads ≡ set table row (set (words_at table row) place (bit_xor (get_or (words_at table row) place 0) word)))
laid_word table capacity pool heads row start place word lt place_in view begins rows =
    let long = ap length view in
    let many = length-rows pool heads in
    let in_heads : row < length heads = omega arith in (
      place_in_pool capacity pool heads row start place word in_heads begins place_in rows,
      word_changed capacity pool heads row start place word in_heads begins place_in rows
          ∙ ap (λ t. set t row (set (words_at t row) place (bit_xor (get_or (words_at t row) place 0) word))) view,
    )

-- the row has as many words as before, those up to `high` in the pool
pub laid_room : (pool : List ℕ) (heads : List TableHead) (row : ℕ) (old head : TableHead) (table : List (List ℕ)) (words : List ℕ) → row < length heads → old ≡ get_or heads row old
    → rows_in pool heads ≡ table → length words ≡ length (words_at table row) → length (row_in pool head) ≡ length (row_in pool old)
    → (capacity : ℕ) (laid : List ℕ) (after : List TableHead) (start high : ℕ) → AreRows capacity laid after → rows_in laid after ≡ rows_in pool (set heads row head) → begin_at after row ≡ Some start
    → high ≤ extent_at after row → (row < length after) × (length words ≡ length (words_at (rows_in laid after) row)) × (start + high ≤ length laid)
laid_room pool heads row old head table words lt at view same wide capacity laid after start high rows laid_is begins up =
    let R : List (List ℕ) = rows_in pool heads in
    let in_rows : row < length R = omega (arith, length-rows pool heads) in
    let its : words_at R row ≡ row_in pool old = row_at pool heads row blank lt ∙ ap (row_in pool) (element heads row blank old lt ∙ sym at) in
    let now : words_at (rows_in laid after) row ≡ row_in pool head = ap (λ t. words_at t row) (laid_is ∙ rows-set pool heads row head) ∙ words_set R row (row_in pool head) in_rows in
    let long : length words ≡ length (words_at (rows_in laid after) row) =
    same ∙ ap (λ t. length (words_at t row)) (sym view) ∙ ap length its ∙ sym wide ∙ sym (ap length now) in
    let count = ap length (laid_is ∙ rows-set pool heads row head) in
    let count_set = length-set R row (row_in pool head) in
    let in_after : row < length after = omega (arith, length-rows laid after, count, count_set, in_rows) in
    (in_after, long, omega (arith, rows.within row start begins, up))
