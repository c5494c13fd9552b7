-- What a pivot leaves of the sets of rows by column.
use Rattle.std.proofs.Common.{◌≡◌, ℕ, ◌+◌, ◌-◌, ◌*◌, ◌/◌, ◌<◌, ◌≤◌, Bool, true, false, not, ◌&&◌, eqb, List, length, get_or, set, refl, sym, ap, ◌∙◌, subst, arith, inl, inr}
use Rattle.std.proofs.Math.ListN.{length-set}
use Rattle.std.proofs.lemmas.List.{get_or-set_same, get_or-set_other}
use Rattle.std.proofs.lemmas.Bool.{cases_eq, eq-eqb, ne_eqb}
use Rattle.cx_base.specs.Literals.{Literal, differ}
use Rattle.gf2_rows.specs.Bits.{bit_of}
use Rattle.gf2_rows.specs.Tables.{words_at}
use Rattle.gf2_matrix.specs.declared.packed.PackedRow.{PackedRow}
use Rattle.gf2_matrix.specs.declared.by_column.ByColumn.{ByColumn}
use Rattle.gf2_matrix.specs.Views.{words_for}
use Rattle.gf2_matrix.specs.Packed.{Window, window_at, start, takes_pivot, ArePlacesIn, ArePivoted, IsPivotedRow, IsSized, IsMatrix, content}
use Rattle.gf2_matrix.specs.Content.{has, row_at}
use Rattle.cx_base.specs.declared.literal.TheConstants.{MAX_VARIABLE}
use Rattle.parity_engine.specs.Written.{AreRising}
use Rattle.gf2_matrix.proofs.Made.{few_columns}
use Rattle.gf2_matrix.proofs.Rows.{pivot_at, column_bit}
use Rattle.gf2_matrix.specs.ByColumn.{AreTurned, HaveRows, IsByColumn, AreByColumn}
use Rattle.parity_engine.proofs.Rising.{column-low}
use Rattle.gf2_matrix.proofs.ByColumns.{differ_kept}

-- the chosen rows are those that take the pivot
pub chosen_takes : (w : Window) (rows : List PackedRow) (c : ByColumn) (row column place : ℕ) (chosen : List ℕ) → IsByColumn w rows c → ArePlacesIn rows w.numbers
    → w.base ≤ column → column - w.base < length w.columns → place < length w.numbers → get_or w.numbers place 0 ≡ row + 1
    → ((m : ℕ) → bit_of chosen m ≡ (not (eqb m place) && bit_of (words_at c.sets (column - w.base)) m))
    → (i j : ℕ) (e : PackedRow) → i < length w.numbers → get_or w.numbers i 0 ≡ j + 1
    → bit_of chosen i ≡ takes_pivot row (column - 64 * (w.base / 64)) j (get_or rows j e)
chosen_takes w rows c row column place chosen by places low column_in place_in at is i j e lt here =
    let bit : start w + (column - w.base) ≡ column - 64 * (w.base / 64) = omega arith in
    is i
    ∙ ap (λ b. not (eqb i place) && b) (by.bits (column - w.base) i j e column_in lt here ∙ ap (bit_of (get_or rows j e).bits) bit)
    ∙ ap (λ b. not b && bit_of (get_or rows j e).bits (column - 64 * (w.base / 64)))
    (elim (cases_eq i place) [
      | inl same ↦ eq-eqb i place same ∙ sym (eq-eqb j row (let g = ap (λ k. get_or w.numbers k 0) same in omega arith))
      | inr ne ↦ ne_eqb i place ne ∙ sym (ne_eqb j row (λ q. ne (places.apart i place lt place_in (let g = at in omega arith))))
    ])

-- no place past the numbers is chosen
pub chosen_within : (w : Window) (rows : List PackedRow) (c : ByColumn) (column place : ℕ) (chosen : List ℕ) → IsByColumn w rows c → column < length w.columns
    → ((m : ℕ) → bit_of chosen m ≡ (not (eqb m place) && bit_of (words_at c.sets column) m))
    → (m : ℕ) → length w.numbers ≤ m → bit_of chosen m ≡ false
chosen_within w rows c column place chosen by column_in is m ge =
    is m ∙ ap (λ b. not (eqb m place) && b) (by.past column m column_in ge) ∙ and_false (not (eqb m place))
  where
    and_false : (b : Bool) → b && false ≡ false
    and_false true = refl
    and_false false = refl

and_true : (b : Bool) → b && true ≡ b
and_true true = refl
and_true false = refl

turned_bit : (takes : Bool) (pivot old new : PackedRow) (k : ℕ) → IsPivotedRow takes pivot old new
    → differ (bit_of old.bits k) (bit_of pivot.bits k && takes) ≡ bit_of new.bits k
turned_bit true pivot old new k step = ap (differ (bit_of old.bits k)) (and_true (bit_of pivot.bits k)) ∙ sym (step.bits k)
turned_bit false pivot old new k step = differ_kept (bit_of old.bits k) (bit_of pivot.bits k) ∙ ap (λ (r : PackedRow). bit_of r.bits k) (sym step)

-- the part of the pivot
pub turned_after : (w : Window) (rows new : List PackedRow) (c turned : ByColumn) (row bit : ℕ) (pivot : PackedRow) → IsByColumn w rows c
    → ((i j : ℕ) (e : PackedRow) → i < length w.numbers → get_or w.numbers i 0 ≡ j + 1 → bit_of turned.chosen.items i ≡ takes_pivot row bit j (get_or rows j e))
    → ((m : ℕ) → length w.numbers ≤ m → bit_of turned.chosen.items m ≡ false)
    → ArePivoted row bit pivot w.numbers rows new (length w.numbers)
    → AreTurned (bit_of turned.chosen.items) pivot.bits (start w) c.sets turned.sets (length c.sets)
    → length turned.chosen.items ≡ words_for (length w.numbers) → IsByColumn w new turned
turned_after w rows new c turned row bit pivot by takes within done are room =
    let count = by.count in
    record {
      count = are.long ∙ by.count;
      sized = λ i lt. are.same i ∙ by.sized i (let l = are.long in omega arith);
      room = room;
      bits = λ i m k e i_in lt at.
          are.done i m (omega arith) (omega arith)
          ∙ ap (λ b. differ b (bit_of pivot.bits (start w + i) && bit_of turned.chosen.items m)) (by.bits i m k e i_in lt at)
          ∙ ap (λ b. differ (bit_of (get_or rows k e).bits (start w + i)) (bit_of pivot.bits (start w + i) && b)) (takes m k e lt at)
          ∙ turned_bit (takes_pivot row bit k (get_or rows k e)) pivot (get_or rows k e) (get_or new k e) (start w + i) (done.done m k e lt at);
      past = λ i m i_in ge.
          are.done i m (omega arith) (omega arith)
          ∙ ap (λ b. differ (bit_of (words_at c.sets i) m) (bit_of pivot.bits (start w + i) && b)) (within m ge)
          ∙ differ_kept (bit_of (words_at c.sets i) m) (bit_of pivot.bits (start w + i)) ∙ by.past i m i_in ge;
    }

-- all parts
pub by_column_after : (vars : ℕ) (given : List (List Literal)) (columns places : List ℕ) (windows : List Window) (rows new spares : List PackedRow) (no_columns : List ℕ)
    (row bit p : ℕ) (pivot : PackedRow) (by_columns : List ByColumn) (turned : ByColumn)
    → IsMatrix vars given columns places windows rows spares no_columns → p < length windows → AreByColumn windows rows by_columns (length windows)
    → ArePivoted row bit pivot (window_at windows p).numbers rows new (length (window_at windows p).numbers) → IsByColumn (window_at windows p) new turned
    → AreByColumn windows new (set by_columns p turned) (length windows)
by_column_after vars given columns places windows rows new spares no_columns row bit p pivot by_columns turned matrix p_in by done here =
    let count = by.count in
    record {
      count = length-set by_columns p turned ∙ by.count;
      each = λ q d lt.
          elim (cases_eq q p) [
            | inl same ↦
                subst (λ k. IsByColumn (window_at windows k) new (get_or (set by_columns p turned) k d)) (sym same)
                (rw (get_or-set_same by_columns p turned d (omega arith)) here)
            | inr ne ↦
                let was = by.each q d lt in
                rw (get_or-set_other by_columns p q turned d ne)
                (record {
                  count = was.count;
                  sized = was.sized;
                  room = was.room;
                  bits = λ i m k e i_in m_in at.
                      was.bits i m k e i_in m_in at
                      ∙ ap (λ (r : PackedRow). bit_of r.bits (start (window_at windows q) + i))
                      (sym (done.left k e (λ j small is. ne (sym (matrix.members q m k e lt m_in at) ∙ matrix.members p j k e p_in small is))));
                  past = was.past;
                })
          ];
    }

-- ---- the rows of a part
pub have_rows : (vars : ℕ) (given : List (List Literal)) (columns places : List ℕ) (windows : List Window) (rows spares : List PackedRow) (no_columns : List ℕ)
    → IsMatrix vars given columns places windows rows spares no_columns → (p : ℕ) → p < length windows → HaveRows (window_at windows p) rows
have_rows vars given columns places windows rows spares no_columns matrix p p_in =
    let rise = matrix.windows_are.numbers_rise p p_in in
    record {
      low = λ m lt. column-low 1 (length given) (window_at windows p).numbers m rise lt;
      high = λ m lt. matrix.in_rows p m p_in lt;
      sized = λ m d lt.
          let low = column-low 1 (length given) (window_at windows p).numbers m rise lt in
          let high = matrix.in_rows p m p_in lt in
          let k : ℕ = get_or (window_at windows p).numbers m 0 - 1 in
          subst (λ q. IsSized (window_at windows q) (get_or rows k d)) (matrix.members p m k d p_in lt (omega arith)) (matrix.fitting k d (omega arith)).sized;
    }

module _ (vars : ℕ) (given : List (List Literal)) (columns places : List ℕ) (windows : List Window) (rows spares : List PackedRow) (no_columns : List ℕ)
    (matrix : IsMatrix vars given columns places windows rows spares no_columns) (r : ℕ) (d : PackedRow) (r_in : r < length rows) (w : Window)
    (here : window_at windows (get_or rows r d).part ≡ w) where
  pub row_by_column : (by_columns : List ByColumn) (c : ByColumn) → AreByColumn windows rows by_columns (length windows) → c ≡ get_or by_columns (get_or rows r d).part c → IsByColumn w rows c
  row_by_column by_columns c by is =
      subst (λ (v : Window). IsByColumn v rows c) here
      (subst (IsByColumn (window_at windows (get_or rows r d).part) rows) (sym is) (by.each (get_or rows r d).part c (matrix.placed r d r_in)))

  pub numbers_few : length w.numbers ≤ length given
  numbers_few =
      few_columns (length given) w.numbers
      (subst (λ (v : Window). AreRising 1 (length given) v.numbers) here (matrix.windows_are.numbers_rise (get_or rows r d).part (matrix.placed r d r_in)))

  pub columns_high : w.base + length w.columns ≤ MAX_VARIABLE
  columns_high =
      let room = matrix.windows_are.room (get_or rows r d).part (matrix.placed r d r_in) in
      let few = matrix.of_given.columns_are.few in
      let small = matrix.few in
      subst (λ (v : Window). v.base + length v.columns ≤ MAX_VARIABLE) here (omega arith)

  -- a column that the row has
  pub column_found : (bits : List ℕ) → bits ≡ (get_or rows r d).bits → (i : ℕ) → i < length w.columns → bit_of bits (start w + i) ≡ true
      → (w.base + i < length columns) × (has (row_at (content vars given columns windows rows).rows r) (get_or columns (w.base + i) 0 - 1) ≡ true)
  column_found bits bits_are i lt is =
      let p : ℕ = (get_or rows r d).part in
      let p_in = matrix.placed r d r_in in
      let row = row_at (content vars given columns windows rows).rows r in
      subst (λ (v : Window). i < length v.columns → bit_of bits (start v + i) ≡ true → (v.base + i < length columns) × (has row (get_or columns (v.base + i) 0 - 1) ≡ true)) here
      (λ small on.
      let room = matrix.windows_are.room p p_in in (
        omega arith,
        ap (λ x. has row (x - 1)) (matrix.windows_are.read p i p_in small)
            ∙ sym (column_bit vars given columns places windows rows spares no_columns matrix r d r_in i small)
            ∙ ap (λ ws. bit_of ws (start (window_at windows p) + i)) (sym bits_are) ∙ on,
      )) lt is

  -- the row has none
  pub column_none : (bits : List ℕ) → bits ≡ (get_or rows r d).bits → ((i : ℕ) → i < length w.columns → bit_of bits (start w + i) ≡ false)
      → (k : ℕ) → k < length columns → has (row_at (content vars given columns windows rows).rows r) (get_or columns k 0 - 1) ≡ false
  column_none bits bits_are none k lt = go (has (row_at (content vars given columns windows rows).rows r) (get_or columns k 0 - 1)) refl
    where
      go : (b : Bool) → has (row_at (content vars given columns windows rows).rows r) (get_or columns k 0 - 1) ≡ b → b ≡ false
      go false is = refl
      go true is =
          let p : ℕ = (get_or rows r d).part in
          let v : Window = window_at windows p in
          let row = row_at (content vars given columns windows rows).rows r in
          let at = pivot_at vars given columns places windows rows spares no_columns r d matrix r_in k lt is in
          let i : ℕ = at.0 in
          let small : i < length v.columns = at.1 in
          let k_is : k ≡ v.base + i = at.2 in
          let lacks = subst (λ (u : Window). (j : ℕ) → j < length u.columns → bit_of bits (start u + j) ≡ false) (sym here) none in
          sym is ∙ ap (λ j. has row (get_or columns j 0 - 1)) k_is ∙ ap (λ x. has row (x - 1)) (matrix.windows_are.read p i (matrix.placed r d r_in) small)
          ∙ sym (column_bit vars given columns places windows rows spares no_columns matrix r d r_in i small)
          ∙ ap (λ ws. bit_of ws (start v + i)) (sym bits_are) ∙ lacks i small
