-- Rows whose words are kept in tables.
use Rattle.std.proofs.Common.{◌≡◌, ◌≢◌, ℕ, ◌+◌, ◌*◌, ◌/◌, ◌%◌, ◌<◌, ◌≤◌, Bool, true, false, cond, not, eqb, nat_eq, List, [], ◌∷◌, ◌++◌, map, take, drop, length, get_or, set, refl, sym, ap, ◌∙◌, subst, arith, inl, inr}
use Rattle.std.proofs.Math.ListN.{get_or-eq_default, length-set, replicate}
use Rattle.std.proofs.lemmas.List.{get_or-map as get_or-map-within, get_or-set_other, get_or-set_same, length-map, map-append, take_more, get_or-replicate, length-replicate}
use Rattle.std.proofs.lemmas.List.FromFn.{get_or-map-range_with_len, length-map-range_with_len}
use Rattle.std.proofs.lemmas.Bool.{cases_eq, cases_lt, eqb-true}
use Rattle.std.proofs.lemmas.Nat.Bits.{bit_at-zero}
use Rattle.std.specs.Simd.Lanes.{zip2}
use Rattle.cx_base.specs.Literals.{differ}
use Rattle.cx_base.proofs.ParityLaws.{differ_false}
use Rattle.gf2_rows.specs.Bits.{bit_of, bits_of, word_bit}
use Rattle.gf2_rows.specs.Tables.{words_at, AreOtherWords, IsChangedAt}
use Rattle.gf2_rows.proofs.Words.{bit_of_sum, bit_past_end, bits_turned}
use Rattle.gf2_matrix.specs.declared.packed.PackedRow.{PackedRow}
use Rattle.gf2_matrix.specs.declared.row_tables.RowHead.{RowHead}
use Rattle.gf2_matrix.specs.ByColumn.{AreSized, AreClear}
use Rattle.gf2_matrix.specs.Made.{AreEmptyRowsOf, IsEmptyRow}
use Rattle.gf2_matrix.specs.Packed.{Window, window_at, start, AreLengths, IsSumRow}
use Rattle.gf2_matrix.specs.Rows.{no_head, empty_head, split_at, row_of, rows_of, AreTables, IsOnlyChange, IsSourcedRow, IsTurnedRow}
use Rattle.gf2_matrix.specs.Stretches.{AreJoined, IsSplit, first_count, apart_count, sources_in}
use Rattle.gf2_matrix.specs.Views.{words_for}
use Rattle.gf2_matrix.proofs.Stretches.{length_of_bits, length_of_sources, split_kept, none_apart, joined_sources, apart_sources, sum_of_bits, sum_of_sources, turned_in_bits, same_sources, same_bits, put_after, split_alike, empty_split, no_bits, no_sources}

-- ---- reading a row
pub length-rows_of : (heads : List RowHead) (words apart : List (List ℕ)) → length (rows_of heads words apart) ≡ length heads
length-rows_of heads words apart = length-map-range_with_len (row_of heads words apart) 0 (length heads)

pub row_read : (heads : List RowHead) (words apart : List (List ℕ)) (i : ℕ) (d : PackedRow) → i < length heads → get_or (rows_of heads words apart) i d ≡ row_of heads words apart i
row_read heads words apart i d lt = get_or-map-range_with_len (row_of heads words apart) 0 (length heads) i i d lt (omega arith)

pub unchanged : (row : ℕ) (rows : List PackedRow) → IsOnlyChange row rows rows
unchanged row rows = record { long = refl; others = λ j d ne. refl }

pub changes : (row : ℕ) (old mid new : List PackedRow) → IsOnlyChange row old mid → IsOnlyChange row mid new → IsOnlyChange row old new
changes row old mid new first second = record { long = second.long ∙ first.long; others = λ j d ne. second.others j d ne ∙ first.others j d ne }

-- a row of the list has a head
pub head_within : (heads : List RowHead) (words apart : List (List ℕ)) (rows : List PackedRow) → rows_of heads words apart ≡ rows → (row : ℕ) → row < length rows → row < length heads
head_within heads words apart rows is row lt = subst (λ n. row < n) (sym (ap length is) ∙ length-rows_of heads words apart) lt

-- what the row has, as the list says
pub row_holds : (heads : List RowHead) (words apart : List (List ℕ)) (rows : List PackedRow) → rows_of heads words apart ≡ rows → (row : ℕ) → row < length heads
    → (P : PackedRow → Type 0) → ((d : PackedRow) → P (get_or rows row d)) → P (row_of heads words apart row)
row_holds heads words apart rows view row lt P has =
    let d : PackedRow = row_of heads words apart row in
    subst P (ap (λ rs. get_or rs row d) (sym view) ∙ row_read heads words apart row d lt) (has d)

-- ---- one row is changed
module _ (heads new_heads : List RowHead) (words new_words apart new_apart : List (List ℕ)) (row : ℕ) (long : length new_heads ≡ length heads) where
  pub only_change : ((j : ℕ) → j ≢ row → get_or new_heads j no_head ≡ get_or heads j no_head) → ((j : ℕ) → j ≢ row → words_at new_words j ≡ words_at words j)
      → ((j : ℕ) → j ≢ row → words_at new_apart j ≡ words_at apart j) → IsOnlyChange row (rows_of heads words apart) (rows_of new_heads new_words new_apart)
  only_change heads_stay words_stay apart_stay = record {
    long = length-rows_of new_heads new_words new_apart ∙ long ∙ sym (length-rows_of heads words apart);
    others = λ j d ne.
        elim (cases_lt j (length heads)) [
          | inl lt ↦
              let same : row_of new_heads new_words new_apart j ≡ row_of heads words apart j =
              (λ i. record {
                part = (heads_stay j ne i).part;
                bits = take (heads_stay j ne i).split (words_stay j ne i);
                right = (heads_stay j ne i).right;
                sources = sources_in (heads_stay j ne i).split (words_stay j ne i) (apart_stay j ne i);
              }) in
              row_read new_heads new_words new_apart j d (omega arith) ∙ same ∙ sym (row_read heads words apart j d lt)
          | inr past ↦
              get_or-eq_default (rows_of new_heads new_words new_apart) d (omega (arith, length-rows_of new_heads new_words new_apart))
              ∙ sym (get_or-eq_default (rows_of heads words apart) d (omega (arith, length-rows_of heads words apart)))
        ];
  }

  -- what is so of the row before and after
  pub row_changed : (P : PackedRow → PackedRow → Type 0) → row < length heads → P (row_of heads words apart row) (row_of new_heads new_words new_apart row)
      → (d : PackedRow) → P (get_or (rows_of heads words apart) row d) (get_or (rows_of new_heads new_words new_apart) row d)
  row_changed P lt is d =
      subst (λ old. P old (get_or (rows_of new_heads new_words new_apart) row d)) (sym (row_read heads words apart row d lt))
      (subst (P (row_of heads words apart row)) (sym (row_read new_heads new_words new_apart row d (omega arith))) is)

turned_here : (e old : Bool) → cond e (not old) old ≡ differ old e
turned_here true true = refl
turned_here true false = refl
turned_here false old = sym (differ_false old)

-- a bit turned over
pub turned_bit : (old new : List ℕ) (k : ℕ) → length new ≡ length old → k < 64 * length old → bits_of new ≡ set (bits_of old) k (not (bit_of old k))
    → (j : ℕ) → bit_of new j ≡ differ (bit_of old j) (eqb j k)
turned_bit old new k long lt turned j =
    bits_turned old new k (not (bit_of old k)) long lt turned j ∙ here (eqb j k) (λ e. ap (bit_of old) (eqb-true j k e)) ∙ turned_here (eqb j k) (bit_of old j)
  where
    here : (e : Bool) → (e ≡ true → bit_of old j ≡ bit_of old k) → cond e (not (bit_of old k)) (bit_of old j) ≡ cond e (not (bit_of old j)) (bit_of old j)
    here true is = ap not (sym (is refl))
    here false is = refl

module _ (heads : List RowHead) (words new_words apart : List (List ℕ)) (row k : ℕ) (change : IsChangedAt row words new_words) where
  pub flipped_only : IsOnlyChange row (rows_of heads words apart) (rows_of heads new_words apart)
  flipped_only = only_change heads heads words new_words apart apart row refl (λ j ne. refl) change.others (λ j ne. refl)

  pub flipped_row : row < length heads → IsSplit (split_at heads row) (words_at words row) (words_at apart row) → k < 64 * length (take (split_at heads row) (words_at words row))
      → bits_of (words_at new_words row) ≡ set (bits_of (words_at words row)) k (not (bit_of (words_at words row) k))
      → AreOtherWords (k / 64) (words_at words row) (words_at new_words row)
      → (d : PackedRow) → IsTurnedRow (λ j. eqb j k) false (get_or (rows_of heads words apart) row d) (get_or (rows_of heads new_words apart) row d)
  flipped_row lt split in' turned others =
      let n : ℕ = split_at heads row in
      let old : List ℕ = words_at words row in
      let new : List ℕ = words_at new_words row in
      let within = split.within in
      let before = length_of_bits n old within in
      let long : length new ≡ length old = change.words in
      row_changed heads heads words new_words apart apart row refl (IsTurnedRow (λ j. eqb j k) false) lt
      (record {
        part = refl;
        long = length_of_bits n new (omega arith) ∙ sym before;
        bits = turned_in_bits n new old k (omega arith) (turned_bit old new k long (omega arith) turned);
        right = sym (differ_false (get_or heads row no_head).right);
        sources = same_sources n new old (words_at apart row) (k / 64) long (omega arith) others;
      })

-- a source is put after the bits
module _ (heads : List RowHead) (words new_words apart : List (List ℕ)) (row place : ℕ) (change : IsChangedAt row words new_words) where
  pub joined_row : row < length heads → IsSplit (split_at heads row) (words_at words row) (words_at apart row) → split_at heads row < length (words_at words row)
      → ((j : ℕ) → bit_of (words_at new_words row) j ≡ cond (nat_eq j (64 * split_at heads row + place)) true (bit_of (words_at words row) j))
      → AreOtherWords ((64 * split_at heads row + place) / 64) (words_at words row) (words_at new_words row)
      → (d : PackedRow) → IsSourcedRow place (get_or (rows_of heads words apart) row d) (get_or (rows_of heads new_words apart) row d)
  joined_row lt split more put others =
      let n : ℕ = split_at heads row in
      let old : List ℕ = words_at words row in
      let new : List ℕ = words_at new_words row in
      let none : words_at apart row ≡ [] = none_apart n old (words_at apart row) split more in
      let a = length_of_sources n old (words_at apart row) in
      let b = length_of_sources n new (words_at apart row) in
      let long : length new ≡ length old = change.words in
      let before : sources_in n old (words_at apart row) ≡ drop n old = joined_sources n old (words_at apart row) none in
      let after : sources_in n new (words_at apart row) ≡ drop n new = joined_sources n new (words_at apart row) none in
      row_changed heads heads words new_words apart apart row refl (IsSourcedRow place) lt
      (record {
        part = refl;
        bits = same_bits n new old ((64 * n + place) / 64) long (omega arith) others;
        right = refl;
        long = omega arith;
        sources = λ j. ap (λ ws. bit_of ws j) after ∙ put_after n new old place put j ∙ ap (λ ws. cond (nat_eq j place) true (bit_of ws j)) (sym before);
      })

  -- the same where the place of the split is read from the head
  pub joined_row_at : (s : ℕ) → s ≡ split_at heads row → row < length heads → IsSplit (split_at heads row) (words_at words row) (words_at apart row) → s < length (words_at words row)
      → ((j : ℕ) → bit_of (words_at new_words row) j ≡ cond (nat_eq j (64 * s + place)) true (bit_of (words_at words row) j))
      → AreOtherWords ((64 * s + place) / 64) (words_at words row) (words_at new_words row)
      → (d : PackedRow) → IsSourcedRow place (get_or (rows_of heads words apart) row d) (get_or (rows_of heads new_words apart) row d)
  joined_row_at s e lt split more put others =
      joined_row lt split (subst (λ n. n < length (words_at words row)) e more)
      (subst (λ n. (j : ℕ) → bit_of (words_at new_words row) j ≡ cond (nat_eq j (64 * n + place)) true (bit_of (words_at words row) j)) e put)
      (subst (λ n. AreOtherWords ((64 * n + place) / 64) (words_at words row) (words_at new_words row)) e others)

-- a source is put among those apart
module _ (heads : List RowHead) (words apart new_apart : List (List ℕ)) (row place : ℕ) (change : IsChangedAt row apart new_apart) where
  pub sourced_only : IsOnlyChange row (rows_of heads words apart) (rows_of heads words new_apart)
  sourced_only = only_change heads heads words words apart new_apart row refl (λ j ne. refl) (λ j ne. refl) change.others

  pub sourced_row : row < length heads → length (words_at words row) ≤ split_at heads row
      → ((j : ℕ) → bit_of (words_at new_apart row) j ≡ cond (nat_eq j place) true (bit_of (words_at apart row) j))
      → (d : PackedRow) → IsSourcedRow place (get_or (rows_of heads words apart) row d) (get_or (rows_of heads words new_apart) row d)
  sourced_row lt all put =
      let n : ℕ = split_at heads row in
      let its : List ℕ = words_at words row in
      let before : sources_in n its (words_at apart row) ≡ words_at apart row = apart_sources n its (words_at apart row) all in
      let after : sources_in n its (words_at new_apart row) ≡ words_at new_apart row = apart_sources n its (words_at new_apart row) all in
      row_changed heads heads words words apart new_apart row refl (IsSourcedRow place) lt
      (record {
        part = refl;
        bits = refl;
        right = refl;
        long = ap length after ∙ change.words ∙ sym (ap length before);
        sources = λ j. ap (λ ws. bit_of ws j) after ∙ put j ∙ ap (λ ws. cond (nat_eq j place) true (bit_of ws j)) (sym before);
      })

-- the right side changes
abbrev pub IsHeadFrom : RowHead → RowHead → Bool → Type 0
IsHeadFrom old new turned = (new.part ≡ old.part) × (new.split ≡ old.split) × (new.right ≡ differ old.right turned)

module _ (heads : List RowHead) (words apart : List (List ℕ)) (row : ℕ) (head : RowHead) where
  pub right_only : IsOnlyChange row (rows_of heads words apart) (rows_of (set heads row head) words apart)
  right_only =
      only_change heads (set heads row head) words words apart apart row (length-set heads row head) (λ j ne. get_or-set_other heads row j head no_head ne) (λ j ne. refl) (λ j ne. refl)

  pub right_row : (turned : Bool) → row < length heads → IsHeadFrom (get_or heads row no_head) head turned
      → (d : PackedRow) → IsTurnedRow (λ j. false) turned (get_or (rows_of heads words apart) row d) (get_or (rows_of (set heads row head) words apart) row d)
  right_row turned lt from =
      let same : get_or (set heads row head) row no_head ≡ head = get_or-set_same heads row head no_head lt in
      let split : split_at (set heads row head) row ≡ split_at heads row = ap (λ (h : RowHead). h.split) same ∙ from.1 in
      row_changed heads (set heads row head) words words apart apart row (length-set heads row head) (IsTurnedRow (λ j. false) turned) lt
      (record {
        part = ap (λ (h : RowHead). h.part) same ∙ from.0;
        long = ap (λ n. length (take n (words_at words row))) split;
        bits = λ k. ap (λ n. bit_of (take n (words_at words row)) k) split ∙ sym (differ_false (bit_of (take (split_at heads row) (words_at words row)) k));
        right = ap (λ (h : RowHead). h.right) same ∙ from.2;
        sources = ap (λ n. sources_in n (words_at words row) (words_at apart row)) split;
      })

-- where the bits end stays
pub splits_kept : (heads : List RowHead) (row : ℕ) (head : RowHead) → row < length heads → head.split ≡ split_at heads row → (i : ℕ) → split_at (set heads row head) i ≡ split_at heads i
splits_kept heads row head lt split i =
    elim (cases_eq i row) [
      | inl e ↦ rw e (ap (λ (h : RowHead). h.split) (get_or-set_same heads row head no_head lt) ∙ split)
      | inr ne ↦ ap (λ (h : RowHead). h.split) (get_or-set_other heads row i head no_head ne)
    ]

-- the tables stay of the same widths
pub tables_kept : (heads new_heads : List RowHead) (words new_words apart new_apart : List (List ℕ)) → AreTables heads words apart → length new_heads ≡ length heads
    → ((i : ℕ) → split_at new_heads i ≡ split_at heads i) → length new_words ≡ length words → ((i : ℕ) → length (words_at new_words i) ≡ length (words_at words i))
    → length new_apart ≡ length apart → ((i : ℕ) → length (words_at new_apart i) ≡ length (words_at apart i)) → AreTables new_heads new_words new_apart
tables_kept heads new_heads words new_words apart new_apart tables count split words_count long apart_count apart_long = record {
  words_count = words_count ∙ tables.words_count ∙ sym count;
  apart_count = apart_count ∙ tables.apart_count ∙ sym count;
  split = λ i lt.
      subst (λ n. IsSplit n (words_at new_words i) (words_at new_apart i)) (sym (split i))
      (split_kept (split_at heads i) (words_at words i) (words_at apart i) (words_at new_words i) (words_at new_apart i) (tables.split i (omega arith)) (long i) (apart_long i));
}

-- a change of one row leaves all widths
pub widths_kept : (row : ℕ) (old new : List (List ℕ)) → IsChangedAt row old new → (i : ℕ) → length (words_at new i) ≡ length (words_at old i)
widths_kept row old new change i =
    elim (cases_eq i row) [
      | inl e ↦ rw e change.words
      | inr ne ↦ ap length (change.others i ne)
    ]

-- a row and one to add are split alike
pub alike_rows : (heads : List RowHead) (words apart : List (List ℕ)) (rows : List PackedRow) → rows_of heads words apart ≡ rows → (row : ℕ) → row < length heads
    → AreTables heads words apart → (pivot : PackedRow) (m : ℕ) (others others_apart : List ℕ) → take m others ≡ pivot.bits → sources_in m others others_apart ≡ pivot.sources
    → IsSplit m others others_apart → ((d : PackedRow) → AreLengths (length pivot.bits) (length pivot.sources) (get_or rows row d))
    → (m ≡ split_at heads row) × (length others ≡ length (words_at words row)) × (length others_apart ≡ length (words_at apart row))
alike_rows heads words apart rows view row lt tables pivot m others others_apart bits sources is sized =
    let size : AreLengths (length pivot.bits) (length pivot.sources) (row_of heads words apart row) = row_holds heads words apart rows view row lt (AreLengths (length pivot.bits) (length pivot.sources)) sized in
    split_alike (split_at heads row) m (words_at words row) (words_at apart row) others others_apart (tables.split row lt) is (ap length bits ∙ sym size.0) (ap length sources ∙ sym size.1)

pub added_only : (heads : List RowHead) (words new_words apart new_apart : List (List ℕ)) (row : ℕ) (head : RowHead)
    → ((j : ℕ) → j ≢ row → words_at new_words j ≡ words_at words j) → ((j : ℕ) → j ≢ row → words_at new_apart j ≡ words_at apart j)
    → IsOnlyChange row (rows_of heads words apart) (rows_of (set heads row head) new_words new_apart)
added_only heads words new_words apart new_apart row head words_stay apart_stay =
    only_change heads (set heads row head) words new_words apart new_apart row (length-set heads row head) (λ j ne. get_or-set_other heads row j head no_head ne) words_stay apart_stay

-- a row is added
pub added_row : (heads : List RowHead) (words new_words apart new_apart : List (List ℕ)) (row : ℕ) (head : RowHead) (m : ℕ) (others others_apart : List ℕ) (right : Bool) (pivot : PackedRow)
    → row < length heads → IsHeadFrom (get_or heads row no_head) head right
    → pivot.right ≡ right → pivot.bits ≡ take m others → pivot.sources ≡ sources_in m others others_apart → m ≡ split_at heads row
    → length (words_at new_words row) ≡ length (words_at words row) → length others ≡ length (words_at words row)
    → length (words_at new_apart row) ≡ length (words_at apart row)
    → ((k : ℕ) → bit_of (words_at new_words row) k ≡ differ (bit_of (words_at words row) k) (bit_of others k))
    → ((k : ℕ) → bit_of (words_at new_apart row) k ≡ differ (bit_of (words_at apart row) k) (bit_of others_apart k))
    → IsSplit (split_at heads row) (words_at words row) (words_at apart row)
    → (d : PackedRow) → IsSumRow (get_or (rows_of (set heads row head) new_words new_apart) row d) (get_or (rows_of heads words apart) row d) pivot
added_row heads words new_words apart new_apart row head m others others_apart right pivot lt from rights bits sources at long others_long apart_long sum apart_sum is =
    let same : get_or (set heads row head) row no_head ≡ head = get_or-set_same heads row head no_head lt in
    let n : ℕ = split_at heads row in
    let split : split_at (set heads row head) row ≡ n = ap (λ (h : RowHead). h.split) same ∙ from.1 in
    let old : List ℕ = words_at words row in
    let new : List ℕ = words_at new_words row in
    let old_apart : List ℕ = words_at apart row in
    let now_apart : List ℕ = words_at new_apart row in
    let within = is.within in
    let new_bits : take (split_at (set heads row head) row) new ≡ take n new = ap (λ s. take s new) split in
    let new_sources : sources_in (split_at (set heads row head) row) new now_apart ≡ sources_in n new now_apart = ap (λ s. sources_in s new now_apart) split in
    let its_bits : pivot.bits ≡ take n others = bits ∙ ap (λ s. take s others) at in
    let its_sources : pivot.sources ≡ sources_in n others others_apart = sources ∙ ap (λ s. sources_in s others others_apart) at in
    let a = length_of_sources n old old_apart in
    let b = length_of_sources n new now_apart in
    let length_kept : length (sources_in n new now_apart) ≡ length (sources_in n old old_apart) = omega arith in
    row_changed heads (set heads row head) words new_words apart new_apart row (length-set heads row head) (λ old new. IsSumRow new old pivot) lt
    (record {
      part = ap (λ (h : RowHead). h.part) same ∙ from.0;
      long = ap length new_bits ∙ length_of_bits n new (omega arith) ∙ sym (length_of_bits n old within);
      bits = λ k. ap (λ ws. bit_of ws k) new_bits ∙ sum_of_bits n new old others sum k ∙ ap (λ ws. differ (bit_of (take n old) k) (bit_of ws k)) (sym its_bits);
      right = ap (λ (h : RowHead). h.right) same ∙ from.2 ∙ ap (differ (get_or heads row no_head).right) (sym rights);
      sources_long = ap length new_sources ∙ length_kept;
      sources = λ k.
          ap (λ ws. bit_of ws k) new_sources ∙ sum_of_sources n new old others now_apart old_apart others_apart long others_long sum apart_sum k
          ∙ ap (λ ws. differ (bit_of (sources_in n old old_apart) k) (bit_of ws k)) (sym its_sources);
    })

-- ---- empty rows
no_bit : (width j : ℕ) → bit_of (replicate width 0) j ≡ false
no_bit width j =
    elim (cases_lt (j / 64) width) [
      | inl lt ↦ ap (λ w. word_bit w (j % 64)) (get_or-replicate width (j / 64) 0 0 lt) ∙ rw (bit_at-zero (j % 64)) refl
      | inr ge ↦ bit_past_end (replicate width 0) j (omega (arith, length-replicate {A = ℕ} width 0))
    ]

abbrev pub zero_table : List ℕ → List (List ℕ)
zero_table widths = map (λ w. replicate w 0) widths

abbrev pub bits_width : List Window → ℕ → ℕ
bits_width windows p = words_for (start (window_at windows p) + length (window_at windows p).columns)

abbrev pub sources_width : List Window → ℕ → ℕ
sources_width windows p = words_for (length (window_at windows p).numbers)

abbrev pub heads_for : List Window → List ℕ → List RowHead
heads_for windows homes = map (λ p. empty_head (bits_width windows p) p) homes

-- a table of rows of one width
module _ (count width : ℕ) (table : List (List ℕ)) (is : table ≡ map (λ w. replicate w 0) (replicate count width)) where
  zero_read : (i : ℕ) → i < length table → words_at table i ≡ replicate width 0
  zero_read i lt =
      let long : length (replicate count width) ≡ count = length-replicate {A = ℕ} count width in
      let all : length table ≡ length (replicate count width) = ap length is ∙ length-map (replicate count width) (λ w. replicate w 0) in
      ap (λ t. words_at t i) is ∙ get_or-map-within (λ w. replicate w 0) (replicate count width) i 0 [] (omega arith)
      ∙ ap (λ w. replicate w 0) (get_or-replicate count i width 0 (omega arith))

  pub zero_sized : AreSized width table
  zero_sized i lt = ap length (zero_read i lt) ∙ length-replicate {A = ℕ} width 0

  pub zero_clear : AreClear table
  zero_clear i m lt = ap (λ ws. bit_of ws m) (zero_read i lt) ∙ no_bit width m

pub mapped_more : {A B : Type 0} (f : A → B) (xs : List A) (k : ℕ) (d : A) → k < length xs → map f (take (k + 1) xs) ≡ map f (take k xs) ++ f (get_or xs k d) ∷ []
mapped_more f xs k d lt = ap (map f) (take_more xs k d lt) ∙ map-append f (take k xs) (get_or xs k d ∷ [])

-- rows of these parts, without a variable and without a source
pub empty_rows_of : (windows : List Window) (homes widths apart_widths : List ℕ)
    → length widths ≡ length homes → length apart_widths ≡ length homes
    → ((k : ℕ) → k < length homes → get_or widths k 0 ≡ first_count (bits_width windows (get_or homes k 0)) (sources_width windows (get_or homes k 0)))
    → ((k : ℕ) → k < length homes → get_or apart_widths k 0 ≡ apart_count (bits_width windows (get_or homes k 0)) (sources_width windows (get_or homes k 0)))
    → AreTables (heads_for windows homes) (zero_table widths) (zero_table apart_widths)
    × AreEmptyRowsOf windows homes (rows_of (heads_for windows homes) (zero_table widths) (zero_table apart_widths))
empty_rows_of windows homes widths apart_widths count apart_count' first apart =
    let f : ℕ → RowHead = λ p. empty_head (bits_width windows p) p in
    let heads : List RowHead = heads_for windows homes in
    let words : List (List ℕ) = zero_table widths in
    let others : List (List ℕ) = zero_table apart_widths in
    let heads_count : length heads ≡ length homes = length-map homes f in
    let head_at : (k : ℕ) → k < length homes → get_or heads k no_head ≡ f (get_or homes k 0) = λ k lt. get_or-map-within f homes k 0 no_head lt in
    let row : (k : ℕ) → k < length homes → words_at words k ≡ replicate (first_count (bits_width windows (get_or homes k 0)) (sources_width windows (get_or homes k 0))) 0 =
    λ k lt. get_or-map-within (λ w. replicate w 0) widths k 0 [] (omega arith) ∙ ap (λ w. replicate w 0) (first k lt) in
    let other : (k : ℕ) → k < length homes → words_at others k ≡ replicate (apart_count (bits_width windows (get_or homes k 0)) (sources_width windows (get_or homes k 0))) 0 =
    λ k lt. get_or-map-within (λ w. replicate w 0) apart_widths k 0 [] (omega arith) ∙ ap (λ w. replicate w 0) (apart k lt) in (
      record {
        words_count = length-map widths (λ w. replicate w 0) ∙ count ∙ sym heads_count;
        apart_count = length-map apart_widths (λ w. replicate w 0) ∙ apart_count' ∙ sym heads_count;
        split = λ k in'.
            let lt : k < length homes = omega arith in
            let b : ℕ = bits_width windows (get_or homes k 0) in
            let s : ℕ = sources_width windows (get_or homes k 0) in
            subst (λ n. IsSplit n (words_at words k) (words_at others k)) (sym (ap (λ (h : RowHead). h.split) (head_at k lt)))
            (subst (λ ws. IsSplit b ws (words_at others k)) (sym (row k lt)) (subst (IsSplit b (replicate (first_count b s) 0)) (sym (other k lt)) (empty_split b s).0));
      },
      record {
        count = length-rows_of heads words others ∙ heads_count;
        each = λ k d lt.
            let b : ℕ = bits_width windows (get_or homes k 0) in
            let s : ℕ = sources_width windows (get_or homes k 0) in
            let head = head_at k lt in
            let split : split_at heads k ≡ b = ap (λ (h : RowHead). h.split) head in
            let bits : take (split_at heads k) (words_at words k) ≡ take b (replicate (first_count b s) 0) = (λ i. take (split i) (row k lt i)) in
            let sources : sources_in (split_at heads k) (words_at words k) (words_at others k) ≡ sources_in b (replicate (first_count b s) 0) (replicate (apart_count b s) 0) =
            (λ i. sources_in (split i) (row k lt i) (other k lt i)) in
            subst (λ (r : PackedRow). IsEmptyRow (window_at windows (get_or homes k 0)) (get_or homes k 0) r) (sym (row_read heads words others k d (omega arith)))
            (record {
              part_is = ap (λ (h : RowHead). h.part) head;
              sized = (ap length bits ∙ (empty_split b s).1, ap length sources ∙ (empty_split b s).2);
              bits = λ j. ap (λ ws. bit_of ws j) bits ∙ no_bits b (first_count b s) j;
              right = ap (λ (h : RowHead). h.right) head;
              sources = λ j. ap (λ ws. bit_of ws j) sources ∙ no_sources b (first_count b s) (apart_count b s) j;
            });
      },
    )

-- the tables that are made
pub made_rows : (windows : List Window) (homes bits sources new_bits new_sources : List ℕ) → bits ≡ map (bits_width windows) homes → sources ≡ map (sources_width windows) homes
    → AreJoined bits sources new_bits new_sources (length bits) → (heads : List RowHead) (words apart : List (List ℕ))
    → heads ≡ heads_for windows homes → words ≡ zero_table new_bits → apart ≡ zero_table new_sources
    → AreTables heads words apart × AreEmptyRowsOf windows homes (rows_of heads words apart)
made_rows windows homes bits sources new_bits new_sources bits_are sources_are joined heads words apart heads_are words_are apart_are =
    let P : List RowHead → List (List ℕ) → List (List ℕ) → Type 0 = λ hs ws others. AreTables hs ws others × AreEmptyRowsOf windows homes (rows_of hs ws others) in
    let long : length bits ≡ length homes = ap length bits_are ∙ length-map homes (bits_width windows) in
    let sources_long : length sources ≡ length homes = ap length sources_are ∙ length-map homes (sources_width windows) in
    let bit : (k : ℕ) → k < length homes → get_or bits k 0 ≡ bits_width windows (get_or homes k 0) =
    λ k lt. ap (λ ws. get_or ws k 0) bits_are ∙ get_or-map-within (bits_width windows) homes k 0 0 lt in
    let source : (k : ℕ) → k < length homes → get_or sources k 0 ≡ sources_width windows (get_or homes k 0) =
    λ k lt. ap (λ ws. get_or ws k 0) sources_are ∙ get_or-map-within (sources_width windows) homes k 0 0 lt in
    let made : P (heads_for windows homes) (zero_table new_bits) (zero_table new_sources) =
    empty_rows_of windows homes new_bits new_sources (joined.long ∙ long) (joined.sources_long ∙ sources_long)
    (λ k lt. joined.first k (omega arith) ∙ (λ i. first_count (bit k lt i) (source k lt i)))
    (λ k lt. joined.apart k (omega arith) ∙ (λ i. apart_count (bit k lt i) (source k lt i))) in
    subst (λ hs. P hs words apart) (sym heads_are)
    (subst (λ ws. P (heads_for windows homes) ws apart) (sym words_are)
    (subst (λ others. P (heads_for windows homes) (zero_table new_bits) others) (sym apart_are) made))

pub widths_small : (homes : List ℕ) (f : ℕ → ℕ) (widths : List ℕ) → widths ≡ map f homes → ((k : ℕ) → k < length homes → f (get_or homes k 0) < 4294967296)
    → (k : ℕ) → k < length widths → get_or widths k 0 < 4294967296
widths_small homes f widths are small k lt =
    let long : length widths ≡ length homes = ap length are ∙ length-map homes f in
    let in' : k < length homes = omega arith in
    let is : get_or widths k 0 ≡ f (get_or homes k 0) = ap (λ ws. get_or ws k 0) are ∙ get_or-map-within f homes k 0 0 in' in
    let s = small k in' in
    omega arith
