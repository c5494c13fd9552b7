-- Sets of rows by column.
use Rattle.std.proofs.Common.{◌≡◌, ℕ, ◌+◌, ◌-◌, ◌*◌, ◌^◌, ◌<◌, ◌≤◌, Bool, true, false, ◌&&◌, eqb, List, [], ◌∷◌, ◌++◌, Option, Some, None, length, length-append, get_or, refl, sym, ap, ◌∙◌, subst, arith, inl, inr, true≢false}
use Rattle.std.specs.Slice.Scan.{HoldsNowhere, IsFirstPlace}
use Rattle.cx_base.specs.declared.literal.TheConstants.{MAX_VARIABLE}
use Rattle.std.proofs.Math.Seq.{get_or-append_seam}
use Rattle.std.proofs.Math.ListN.{get_or-eq_default}
use Rattle.std.proofs.lemmas.List.{get_or_append_left}
use Rattle.std.proofs.lemmas.List.Sums.{count_by-le-length}
use Rattle.std.proofs.lemmas.Bool.{cases_eq, cases_lt, eq-eqb, ne_eqb}
use Rattle.cx_base.specs.Literals.{differ}
use Rattle.gf2_rows.specs.Bits.{bit_of, bits_of}
use Rattle.gf2_rows.specs.Tables.{words_at, IsChangedAt}
use Rattle.gf2_rows.proofs.Words.{bit_past_end, length-bits}
use Rattle.gf2_matrix.specs.declared.packed.PackedRow.{PackedRow}
use Rattle.gf2_matrix.specs.declared.by_column.ByColumn.{ByColumn}
use Rattle.gf2_matrix.specs.Views.{words_for}
use Rattle.gf2_matrix.specs.Packed.{Window, window_at, start, takes_pivot, ArePlacesIn, ArePivoted, IsPivotedRow, IsSumRow}
use Rattle.gf2_matrix.specs.Rows.{IsOnlyChange}
use Rattle.gf2_matrix.specs.ByColumn.{AreTurned, AreSized, AreClear, IsByColumn, AreByColumn, IsColumnOf, IsRarestOf, HaveRows, set_size}
use Rattle.gf2_matrix.proofs.Updates.{same_read}
use Rattle.gf2_matrix.proofs.Rows.{pivoted_more}

differ_none : (a : Bool) → a ≡ differ a false
differ_none true = refl
differ_none false = refl

pub turned_none : (chosen : ℕ → Bool) (bits : List ℕ) (first : ℕ) (sets : List (List ℕ)) → AreTurned chosen bits first sets sets 0
turned_none chosen bits first sets = record { long = refl; same = λ i. refl; done = λ i m lt in'. absurd (omega arith); left = λ i ge. refl }

-- columns that the bits lack
pub turned_gap : (chosen : ℕ → Bool) (bits : List ℕ) (first : ℕ) (old new : List (List ℕ)) (n next : ℕ) → AreTurned chosen bits first old new n → n ≤ next
    → ((i : ℕ) → n ≤ i → i < next → i < length old → bit_of bits (first + i) ≡ false) → AreTurned chosen bits first old new next
turned_gap chosen bits first old new n next so le lacks = record {
  long = so.long;
  same = so.same;
  done = λ i m lt in'.
      elim (cases_lt i n) [
        | inl small ↦ so.done i m small in'
        | inr ge ↦
            ap (λ s. bit_of s m) (so.left i ge)
            ∙ differ_none (bit_of (words_at old i) m)
            ∙ ap (λ b. differ (bit_of (words_at old i) m) (b && chosen m)) (sym (lacks i ge lt in'))
      ];
  left = λ i ge. so.left i (omega arith);
}

-- a column that the bits have
pub turned_more : (chosen : ℕ → Bool) (bits : List ℕ) (first : ℕ) (old new turned : List (List ℕ)) (n : ℕ) → AreTurned chosen bits first old new n → n < length old
    → bit_of bits (first + n) ≡ true → IsChangedAt n new turned → ((m : ℕ) → bit_of (words_at turned n) m ≡ differ (bit_of (words_at new n) m) (chosen m))
    → AreTurned chosen bits first old turned (n + 1)
turned_more chosen bits first old new turned n so within on change sum = record {
  long = change.rows ∙ so.long;
  same = λ i.
      elim (cases_eq i n) [
        | inl here ↦ subst (λ k. length (words_at turned k) ≡ length (words_at old k)) (sym here) (change.words ∙ so.same n)
        | inr ne ↦ ap length (change.others i ne) ∙ so.same i
      ];
  done = λ i m lt in'.
      elim (cases_eq i n) [
        | inl same ↦
            subst (λ k. bit_of (words_at turned k) m ≡ differ (bit_of (words_at old k) m) (bit_of bits (first + k) && chosen m)) (sym same)
            (rw on (sum m ∙ ap (λ s. differ (bit_of s m) (chosen m)) (so.left n (omega arith))))
        | inr ne ↦ ap (λ s. bit_of s m) (change.others i ne) ∙ so.done i m (omega arith) in'
      ];
  left = λ i ge. change.others i (λ same. omega arith) ∙ so.left i (omega arith);
}

-- past the last set there is none to turn
turned_cut : (chosen : ℕ → Bool) (bits : List ℕ) (first : ℕ) (old new : List (List ℕ)) (n : ℕ) → AreTurned chosen bits first old new n → length old ≤ n
    → AreTurned chosen bits first old new (length old)
turned_cut chosen bits first old new n so le = record {
  long = so.long;
  same = so.same;
  done = λ i m lt in'. so.done i m (omega arith) in';
  left = λ i ge. get_or-eq_default new [] (let l = so.long in omega arith) ∙ sym (get_or-eq_default old [] ge);
}

module _ (chosen : ℕ → Bool) (bits : List ℕ) (first : ℕ) (old new : List (List ℕ)) (from : ℕ)
    (so : AreTurned chosen bits first old new (from - first)) (low : first ≤ from) where
  -- the next column that the bits have is past the last set
  pub turned_past : (to bit : ℕ) → IsFirstPlace (bit_of bits) from to bit → length new ≤ bit - first → AreTurned chosen bits first old new (length old)
  turned_past to bit is past =
      let at = is.low in
      turned_cut chosen bits first old new (bit - first)
      (turned_gap chosen bits first old new (from - first) (bit - first) so (omega arith) (λ i ge lt in'. is.before (first + i) (omega arith) (omega arith)))
      (let l = so.long in omega arith)

  -- the bits have no further column
  pub turned_all : HoldsNowhere (bit_of bits) from (64 * length bits) → AreTurned chosen bits first old new (length old)
  turned_all none =
      turned_cut chosen bits first old new (from - first + length old)
      (turned_gap chosen bits first old new (from - first) (from - first + length old) so (omega arith)
      (λ i ge lt in'.
      elim (cases_lt (first + i) (64 * length bits)) [
        | inl small ↦ none (first + i) (omega arith) small
        | inr past ↦ bit_past_end bits (first + i) past
      ]))
      (omega arith)

  -- the set of the next column that the bits have is turned
  pub turned_next : (to bit : ℕ) (turned : List (List ℕ)) → IsFirstPlace (bit_of bits) from to bit → bit < to → bit - first < length new → IsChangedAt (bit - first) new turned
      → ((m : ℕ) → bit_of (words_at turned (bit - first)) m ≡ differ (bit_of (words_at new (bit - first)) m) (chosen m))
      → AreTurned chosen bits first old turned (bit + 1 - first)
  turned_next to bit turned is within in' change sum =
      let at = is.low in
      let n : ℕ = bit - first in
      let back : first + n ≡ bit = omega arith in
      let next : n + 1 ≡ bit + 1 - first = omega arith in
      subst (AreTurned chosen bits first old turned) next
      (turned_more chosen bits first old new turned n
      (turned_gap chosen bits first old new (from - first) n so (omega arith) (λ i ge lt in'. is.before (first + i) (omega arith) (omega arith)))
      (let l = so.long in omega arith) (ap (bit_of bits) back ∙ is.hit within) change sum)

-- ---- the part by columns, a row at a time
-- the sets have the rows of the first n numbers
pub record AreEntered (w : Window) (rows : List PackedRow) (sets : List (List ℕ)) (n : ℕ) : Type 0 where
  pub count : length sets ≡ length w.columns
  pub sized : AreSized (words_for (length w.numbers)) sets
  pub done : (i m k : ℕ) (e : PackedRow) → i < length w.columns → m < n → get_or w.numbers m 0 ≡ k + 1
      → bit_of (words_at sets i) m ≡ bit_of (get_or rows k e).bits (start w + i)
  pub ahead : (i m : ℕ) → i < length w.columns → n ≤ m → bit_of (words_at sets i) m ≡ false

pub entered_none : (w : Window) (rows : List PackedRow) (sets : List (List ℕ)) → length sets ≡ length w.columns → AreSized (words_for (length w.numbers)) sets → AreClear sets
    → AreEntered w rows sets 0
entered_none w rows sets count sized clear = record { count = count; sized = sized; done = λ i m k e i_in lt at. absurd (omega arith); ahead = λ i m i_in ge. clear i m (omega arith) }

pub differ_kept : (a b : Bool) → differ a (b && false) ≡ a
differ_kept true true = refl
differ_kept true false = refl
differ_kept false true = refl
differ_kept false false = refl

differ_put : (b : Bool) → differ false (b && true) ≡ b
differ_put true = refl
differ_put false = refl

pub entered_more : (w : Window) (rows : List PackedRow) (sets new : List (List ℕ)) (n : ℕ) (row e' : PackedRow) → AreEntered w rows sets n → n < length w.numbers → 1 ≤ get_or w.numbers n 0
    → get_or w.numbers n 0 ≤ length rows → row ≡ get_or rows (get_or w.numbers n 0 - 1) e'
    → AreTurned (λ m. eqb m n) row.bits (start w) sets new (length sets) → AreEntered w rows new (n + 1)
entered_more w rows sets new n row e' so within low high is turned = record {
  count = turned.long ∙ so.count;
  sized = λ i lt. turned.same i ∙ so.sized i (let l = turned.long in omega arith);
  done = λ i m k e i_in lt at.
      turned.done i m (let c = so.count in omega arith) (let c = so.count in omega arith)
      ∙ elim (cases_eq m n) [
        | inl same ↦
            let read : row ≡ get_or rows k e =
            is ∙ ap (λ j. get_or rows j e') (let g = ap (λ j. get_or w.numbers j 0) same in omega arith) ∙ same_read rows k e' e (let g = ap (λ j. get_or w.numbers j 0) same in omega arith) in
            rw (so.ahead i m i_in (omega arith), eq-eqb m n same) (differ_put (bit_of row.bits (start w + i)) ∙ ap (λ (r : PackedRow). bit_of r.bits (start w + i)) read)
        | inr ne ↦ rw (ne_eqb m n ne) (differ_kept (bit_of (words_at sets i) m) (bit_of row.bits (start w + i)) ∙ so.done i m k e i_in (omega arith) at)
      ];
  ahead = λ i m i_in ge.
      turned.done i m (let c = so.count in omega arith) (let c = so.count in omega arith)
      ∙ rw (ne_eqb m n (λ same. omega arith)) (differ_kept (bit_of (words_at sets i) m) (bit_of row.bits (start w + i)) ∙ so.ahead i m i_in (omega arith));
}

-- ---- the row of the number at a place
pub entry_low : (w : Window) (rows : List PackedRow) (n number : ℕ) → HaveRows w rows → n < length w.numbers → number ≡ get_or w.numbers n number → 1 ≤ number
entry_low w rows n number have lt is = subst (λ k. 1 ≤ k) (sym (is ∙ same_read w.numbers n number 0 lt)) (have.low n lt)

pub entry_high : (w : Window) (rows : List PackedRow) (n number : ℕ) → HaveRows w rows → n < length w.numbers → number ≡ get_or w.numbers n number → number - 1 < length rows
entry_high w rows n number have lt is =
    let read = is ∙ same_read w.numbers n number 0 lt in
    let low = have.low n lt in
    let high = have.high n lt in
    omega arith

pub entry_words : (w : Window) (rows : List PackedRow) (n number : ℕ) (row : PackedRow) → HaveRows w rows → n < length w.numbers → number ≡ get_or w.numbers n number
    → row ≡ get_or rows (number - 1) row → length row.bits ≡ words_for (start w + length w.columns)
entry_words w rows n number row have lt is read =
    ap (λ (r : PackedRow). length r.bits) (read ∙ ap (λ k. get_or rows (k - 1) row) (is ∙ same_read w.numbers n number 0 lt)) ∙ (have.sized n row lt).0

pub few_for : (w : Window) → length w.columns ≤ MAX_VARIABLE → words_for (start w + length w.columns) < 4294967296
few_for w few = omega arith

pub start_in : (w : Window) → start w ≤ 64 * words_for (start w + length w.columns)
start_in w = omega arith

pub place_in : {n count : ℕ} → n < count → n < 64 * words_for count
place_in lt = omega arith

pub all_entered : (w : Window) (rows : List PackedRow) (sets : List (List ℕ)) (n to : ℕ) → AreEntered w rows sets n → to ≡ length w.numbers → n ≤ to → to ≤ n
    → AreEntered w rows sets (length w.numbers)
all_entered w rows sets n to so is le ge = let same : n ≡ length w.numbers = omega arith in subst (AreEntered w rows sets) same so

pub entered_all : (w : Window) (rows : List PackedRow) (c : ByColumn) → AreEntered w rows c.sets (length w.numbers) → length c.chosen.items ≡ words_for (length w.numbers) → IsByColumn w rows c
entered_all w rows c so room = record { count = so.count; sized = so.sized; room = room; bits = so.done; past = so.ahead }

pub by_column_more : (windows : List Window) (rows : List PackedRow) (all new : List ByColumn) (n : ℕ) (c : ByColumn) → AreByColumn windows rows all n → new ≡ all ++ c ∷ []
    → IsByColumn (window_at windows n) rows c → AreByColumn windows rows new (n + 1)
by_column_more windows rows all new n c so is step =
    let count = so.count in
    subst (λ (cs : List ByColumn). AreByColumn windows rows cs (n + 1)) (sym is)
    (record {
      count = omega (arith, length-append all (c ∷ []));
      each = λ p d lt.
          elim (cases_eq p n) [
            | inl e ↦
                subst (λ q. IsByColumn (window_at windows q) rows (get_or (all ++ c ∷ []) q d)) (sym e)
                (rw (ap (λ q. get_or (all ++ c ∷ []) q d) (sym count) ∙ get_or-append_seam all c [] d) step)
            | inr ne ↦ rw (get_or_append_left all (c ∷ []) d p (omega arith)) (so.each p d (omega arith))
          ];
    })

-- ---- the rows that are chosen
-- numbers that are not chosen
chosen_gap : (row bit : ℕ) (pivot : PackedRow) (numbers : List ℕ) (old new : List PackedRow) (n next : ℕ) → ArePlacesIn old numbers → ArePivoted row bit pivot numbers old new n → n ≤ next
    → ((i j : ℕ) (d : PackedRow) → n ≤ i → i < next → i < length numbers → get_or numbers i 0 ≡ j + 1 → takes_pivot row bit j (get_or old j d) ≡ false)
    → ArePivoted row bit pivot numbers old new next
chosen_gap row bit pivot numbers old new n next places so le lacks = record {
  long = so.long;
  done = λ i j d lt at.
      elim (cases_lt i n) [
        | inl small ↦ so.done i j d small at
        | inr ge ↦
            elim (cases_lt i (length numbers)) [
              | inl in' ↦
                  subst (λ b. IsPivotedRow b pivot (get_or old j d) (get_or new j d)) (sym (lacks i j d ge lt in' at))
                  (so.left j d (λ k small same. absurd (let q = places.apart k i (omega arith) in' (same ∙ sym at) in omega arith)))
              | inr out ↦ absurd (let z = get_or-eq_default numbers 0 out in omega arith)
            ]
      ];
  left = λ j d none. so.left j d (λ i lt. none i (omega arith));
}

chosen_cut : (row bit : ℕ) (pivot : PackedRow) (numbers : List ℕ) (old new : List PackedRow) (n : ℕ) → ArePivoted row bit pivot numbers old new n → length numbers ≤ n
    → ArePivoted row bit pivot numbers old new (length numbers)
chosen_cut row bit pivot numbers old new n so le = record {
  long = so.long;
  done = λ i j d lt at. so.done i j d (omega arith) at;
  left = λ j d none.
      so.left j d
      (λ i lt same.
      elim (cases_lt i (length numbers)) [
        | inl in' ↦ none i in' same
        | inr out ↦ absurd (let z = get_or-eq_default numbers 0 out in omega arith)
      ]);
}

module _ (row bit : ℕ) (pivot : PackedRow) (numbers chosen : List ℕ) (old new : List PackedRow) (from : ℕ) (places : ArePlacesIn old numbers)
    (are : (i j : ℕ) (d : PackedRow) → i < length numbers → get_or numbers i 0 ≡ j + 1 → bit_of chosen i ≡ takes_pivot row bit j (get_or old j d))
    (so : ArePivoted row bit pivot numbers old new from) where
  pub chosen_past : (to place : ℕ) → IsFirstPlace (bit_of chosen) from to place → length numbers ≤ place → ArePivoted row bit pivot numbers old new (length numbers)
  chosen_past to place is past =
      chosen_cut row bit pivot numbers old new place
      (chosen_gap row bit pivot numbers old new from place places so is.low (λ i j d ge lt in' at. sym (are i j d in' at) ∙ is.before i ge lt)) past

  pub chosen_all : HoldsNowhere (bit_of chosen) from (64 * length chosen) → ArePivoted row bit pivot numbers old new (length numbers)
  chosen_all none =
      chosen_cut row bit pivot numbers old new (from + length numbers)
      (chosen_gap row bit pivot numbers old new from (from + length numbers) places so (omega arith)
      (λ i j d ge lt in' at.
      sym (are i j d in' at)
      ∙ elim (cases_lt i (64 * length chosen)) [
        | inl small ↦ none i ge small
        | inr past ↦ bit_past_end chosen i past
      ]))
      (omega arith)

  -- the row of a number that has not been reached
  pub chosen_untouched : (place j : ℕ) → from ≤ place → place < length numbers → get_or numbers place 0 ≡ j + 1 → (d : PackedRow) → get_or new j d ≡ get_or old j d
  chosen_untouched place j ge in' at d = so.left j d (λ k small same. absurd (let q = places.apart k place (omega arith) in' (same ∙ sym at) in omega arith))

  pub chosen_next : (to place j : ℕ) (next : List PackedRow) → IsFirstPlace (bit_of chosen) from to place → place < to → place < length numbers → get_or numbers place 0 ≡ j + 1
      → IsOnlyChange j new next → ((d : PackedRow) → IsSumRow (get_or next j d) (get_or new j d) pivot) → ArePivoted row bit pivot numbers old next (place + 1)
  chosen_next to place j next is within in' at change sum =
      let here = chosen_gap row bit pivot numbers old new from place places so is.low (λ i j d ge lt in' at. sym (are i j d in' at) ∙ is.before i ge lt) in
      pivoted_more row bit pivot numbers old new next place j places here in' at change
      (λ d. subst (λ b. IsPivotedRow b pivot (get_or old j d) (get_or next j d)) (sym (is.hit within) ∙ are place j d in' at)
      (subst (λ o. IsSumRow (get_or next j d) o pivot) (chosen_untouched place j is.low in' at d) (sum d)))

-- ---- a column of the bits
-- the same of the bits before a position
abbrev pub IsColumnBefore : List ℕ → ℕ → ℕ → ℕ → Option ℕ → Type 0
IsColumnBefore bits first n from None = HoldsNowhere (bit_of bits) first from
IsColumnBefore bits first n from (Some i) = (i < n) × (bit_of bits (first + i) ≡ true)

-- the set of the column has so many rows, and that of no other before the position has fewer. Before the first column the number is the largest
pub record IsRarestBefore (bits : List ℕ) (first : ℕ) (sets : List (List ℕ)) (from : ℕ) (rarest : Option ℕ) (fewest : ℕ) : Type 0 where
  pub column : IsColumnBefore bits first (length sets) from rarest
  pub most : rarest ≡ None → fewest ≡ 2 ^ 64 - 1
  pub size : (i : ℕ) → rarest ≡ Some i → set_size (words_at sets i) ≡ fewest
  pub least : (i j : ℕ) → rarest ≡ Some i → j < length sets → first + j < from → bit_of bits (first + j) ≡ true → fewest ≤ set_size (words_at sets j)

-- before the first column
pub rarest_none : (bits : List ℕ) (first : ℕ) (sets : List (List ℕ)) → IsRarestBefore bits first sets first None (2 ^ 64 - 1)
rarest_none bits first sets = record {
  column = λ k ge lt. absurd (omega arith);
  most = λ none. refl;
  size = λ i found. absurd (cc);
  least = λ i j found. absurd (cc);
}

-- as few rows as the column's, in the sets of the columns before
rarer : (bits : List ℕ) (first : ℕ) (sets : List (List ℕ)) (from : ℕ) (rarest : Option ℕ) (fewest rows : ℕ) → IsRarestBefore bits first sets from rarest fewest
    → rows < fewest → (j : ℕ) → j < length sets → first + j < from → bit_of bits (first + j) ≡ true → rows ≤ set_size (words_at sets j)
rarer bits first sets from None fewest rows so less j j_in before on = absurd (true≢false (sym on ∙ so.column (first + j) (omega arith) before))
rarer bits first sets from (Some i) fewest rows so less j j_in before on = let least = so.least i j refl j_in before on in omega arith

-- the set of the next column that the bits have has fewer rows
pub rarest_taken : (bits : List ℕ) (first : ℕ) (sets : List (List ℕ)) (from to bit : ℕ) (rarest : Option ℕ) (fewest rows : ℕ) → IsRarestBefore bits first sets from rarest fewest
    → IsFirstPlace (bit_of bits) from to bit → bit < to → first ≤ bit → bit - first < length sets → rows ≡ set_size (words_at sets (bit - first))
    → rows < fewest → IsRarestBefore bits first sets (bit + 1) (Some (bit - first)) rows
rarest_taken bits first sets from to bit rarest fewest rows so is within low in' size fewer =
    let back : first + (bit - first) ≡ bit = omega arith in
    record {
      column = (in', ap (bit_of bits) back ∙ is.hit within);
      most = λ none. absurd (cc);
      size = λ i found. let at : bit - first ≡ i = cc in subst (λ k. set_size (words_at sets k) ≡ rows) at (sym size);
      least = λ i j found j_in lt on.
          elim (cases_lt (first + j) from) [
            | inl before ↦ rarer bits first sets from rarest fewest rows so fewer j j_in before on
            | inr ge ↦
                elim (cases_lt (first + j) bit) [
                  | inl small ↦ absurd (true≢false (sym on ∙ is.before (first + j) ge small))
                  | inr last ↦
                      let at : bit - first ≡ j = omega arith in
                      let same : rows ≡ set_size (words_at sets j) = size ∙ ap (λ k. set_size (words_at sets k)) at in
                      omega arith
                ]
          ];
    }

column_stays : (bits : List ℕ) (first : ℕ) (sets : List (List ℕ)) (from next : ℕ) (rarest : Option ℕ) (fewest : ℕ) → IsRarestBefore bits first sets from rarest fewest → fewest < 2 ^ 64 - 1
    → IsColumnBefore bits first (length sets) next rarest
column_stays bits first sets from next None fewest so low = absurd (let most = so.most refl in omega arith)
column_stays bits first sets from next (Some i) fewest so low = so.column

-- the set of the next column that the bits have has no fewer rows
pub rarest_stays : (bits : List ℕ) (first : ℕ) (sets : List (List ℕ)) (from to bit : ℕ) (rarest : Option ℕ) (fewest rows : ℕ) → IsRarestBefore bits first sets from rarest fewest
    → IsFirstPlace (bit_of bits) from to bit → first ≤ bit → bit - first < length sets → rows ≡ set_size (words_at sets (bit - first)) → rows < 2 ^ 64 - 1 → fewest ≤ rows
    → IsRarestBefore bits first sets (bit + 1) rarest fewest
rarest_stays bits first sets from to bit rarest fewest rows so is low in' size small le = record {
  column = column_stays bits first sets from (bit + 1) rarest fewest so (omega arith);
  most = so.most;
  size = so.size;
  least = λ i j found j_in lt on.
      elim (cases_lt (first + j) from) [
        | inl before ↦ so.least i j found j_in before on
        | inr ge ↦
            elim (cases_lt (first + j) bit) [
              | inl small ↦ absurd (true≢false (sym on ∙ is.before (first + j) ge small))
              | inr last ↦
                  let at : bit - first ≡ j = omega arith in
                  let same : rows ≡ set_size (words_at sets j) = size ∙ ap (λ k. set_size (words_at sets k)) at in
                  omega arith
            ]
      ];
}

-- a set of few words has no more ones than they have bits
pub set_small : (set : List ℕ) → length set < 2 ^ 32 → set_size set < 2 ^ 64 - 1
set_small set few = omega (arith, count_by-le-length (λ b. b) (bits_of set), length-bits set)

-- a set of one row at the most has no more than one of some
pub alone_rarest : (sets : List (List ℕ)) (column i j rows : ℕ) → rows ≡ set_size (words_at sets column) → rows ≤ 1
    → Some column ≡ Some i → 1 ≤ set_size (words_at sets j) → set_size (words_at sets i) ≤ set_size (words_at sets j)
alone_rarest sets column i j rows size few found some =
    let at : column ≡ i = cc in
    let same : set_size (words_at sets i) ≡ rows = ap (λ k. set_size (words_at sets k)) (sym at) ∙ sym size in
    rw same (omega arith)

-- the next column that the bits have is past the last set
pub column_past : (bits : List ℕ) (first n from to bit : ℕ) (rarest : Option ℕ) → IsColumnBefore bits first n from rarest → IsFirstPlace (bit_of bits) from to bit → n ≤ bit - first
    → IsColumnOf bits first n rarest
column_past bits first n from to bit None so is past = λ i lt.
    elim (cases_lt (first + i) from) [
      | inl before ↦ so (first + i) (omega arith) before
      | inr ge ↦ is.before (first + i) ge (omega arith)
    ]
column_past bits first n from to bit (Some i) so is past = so

pub rarest_past : (bits : List ℕ) (first : ℕ) (sets : List (List ℕ)) (from to bit : ℕ) (rarest : Option ℕ) (fewest : ℕ) → IsRarestBefore bits first sets from rarest fewest
    → IsFirstPlace (bit_of bits) from to bit → length sets ≤ bit - first → IsRarestOf bits first sets rarest
rarest_past bits first sets from to bit rarest fewest so is past i j found j_in on =
    let size = so.size i found in
    let le : fewest ≤ set_size (words_at sets j) =
    elim (cases_lt (first + j) from) [
      | inl before ↦ so.least i j found j_in before on
      | inr ge ↦ absurd (true≢false (sym on ∙ is.before (first + j) ge (omega arith)))
    ] in
    rw size le

-- the bits have no further column
pub column_all : (bits : List ℕ) (first n from : ℕ) (rarest : Option ℕ) → IsColumnBefore bits first n from rarest → HoldsNowhere (bit_of bits) from (64 * length bits)
    → IsColumnOf bits first n rarest
column_all bits first n from None so none = λ i lt.
    elim (cases_lt (first + i) from) [
      | inl before ↦ so (first + i) (omega arith) before
      | inr ge ↦
          elim (cases_lt (first + i) (64 * length bits)) [
            | inl small ↦ none (first + i) ge small
            | inr past ↦ bit_past_end bits (first + i) past
          ]
    ]
column_all bits first n from (Some i) so none = so

pub rarest_all : (bits : List ℕ) (first : ℕ) (sets : List (List ℕ)) (from : ℕ) (rarest : Option ℕ) (fewest : ℕ) → IsRarestBefore bits first sets from rarest fewest
    → HoldsNowhere (bit_of bits) from (64 * length bits) → IsRarestOf bits first sets rarest
rarest_all bits first sets from rarest fewest so none i j is j_in on =
    let size = so.size i is in
    let le : fewest ≤ set_size (words_at sets j) =
    elim (cases_lt (first + j) from) [
      | inl before ↦ so.least i j is j_in before on
      | inr ge ↦
          elim (cases_lt (first + j) (64 * length bits)) [
            | inl small ↦ absurd (true≢false (sym on ∙ none (first + j) ge small))
            | inr past ↦ absurd (true≢false (sym on ∙ bit_past_end bits (first + j) past))
          ]
    ] in
    rw size le
