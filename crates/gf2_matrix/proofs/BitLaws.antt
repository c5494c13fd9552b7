-- What the bits of a row tell.
use Rattle.std.proofs.Common.{◌≡◌, ◌∙◌, ℕ, ◌+◌, ◌-◌, ◌*◌, ◌/◌, ◌%◌, ◌<◌, ◌≤◌, ◌^◌, ◌&&◌, Bool, true, false, not, List, length, map, take, drop, get_or, Option, Some, None, refl, sym, ap, subst, arith, inl, inr, true≢false}
use Rattle.std.specs.Prelude.{MatchOption}
use Rattle.std.specs.Slice.Scan.{HoldsNowhere}
use Rattle.std.proofs.lemmas.Bool.{cases_lt, le-leb, lt-leb}
use Rattle.std.specs.Simd.Lanes.{zip2}
use Rattle.cx_base.specs.Literals.{Literal}
use Rattle.cx_base.specs.Parity.{odd_sum}
use Rattle.gf2_rows.specs.Bits.{bit_of, bits_of, is_outside, is_skipped}
use Rattle.gf2_rows.proofs.Words.{bit_past_end}
use Rattle.gf2_matrix.specs.declared.packed.PackedRow.{PackedRow}
use Rattle.gf2_matrix.specs.declared.packed.Part.{Part}
use Rattle.gf2_matrix.specs.Bits.{AreBits, AreBitsOf, Bits, IsBitOutside, bits, has_bit, sum_with}
use Rattle.gf2_matrix.specs.Content.{Content, HoldsValues, SourcedRow, equation, has, row_at}
use Rattle.gf2_matrix.specs.Packed.{IsMatrix, Window, content, window, window_at}
use Rattle.gf2_matrix.specs.Totals.{total}
use Rattle.gf2_matrix.specs.Views.{is_bit_of, words_for}
use Rattle.gf2_matrix.proofs.Reduce.{outside-false}
use Rattle.gf2_matrix.proofs.Rows.{at_row, row_within, row_window}
use Rattle.gf2_matrix.proofs.Room.{sizes}
use Rattle.gf2_matrix.proofs.Windows.{bit_from, bit_of_window, column_found, column_inside, column_outside, row_total, span_all}

-- a column before the words is not theirs, and they have a bit for one from there on
pub bit_before : (low k : ℕ) (words : List ℕ) → k < low → is_bit_of low words k ≡ false
bit_before low k words lt = ap (λ t. t && bit_of words (k - low)) (lt-leb low k lt)

pub bit_after : (low k : ℕ) (words : List ℕ) → low ≤ k → is_bit_of low words k ≡ bit_of words (k - low)
bit_after low k words le = ap (λ t. t && bit_of words (k - low)) (le-leb low k le)

pub column_of_bit : {c : Content} {r : ℕ} {b : Bits} → AreBitsOf c r b → (k : ℕ) → has_bit b k ≡ true → k < length c.columns
column_of_bit of k on = let w = of.within k on in let i = of.inside in omega arith

-- a bit that a search through a window of the mask passes over is not set, where the mask lacks its column
pub passed_over : (words mask : List ℕ) (f n k : ℕ) (skip skipped : Option ℕ) → n ≡ length words → 64 * f ≤ k → bit_of mask k ≡ false → is_skipped skip k ≡ false
    → ((p : ℕ) → is_skipped skipped p ≡ is_skipped skip (64 * f + p)) → HoldsNowhere (is_outside words (take (f + n - f) (drop f mask)) skipped) 0 (64 * length words)
    → bit_of words (k - 64 * f) ≡ false
passed_over words mask f n k skip skipped n_is le free kept is_skip nowhere =
    elim (cases_lt (k - 64 * f) (64 * length words)) [
      | inr past ↦ bit_past_end words (k - 64 * f) past
      | inl inside ↦
          let p : ℕ = k - 64 * f in
          let back : 64 * f + p ≡ k = omega arith in
          let window : List ℕ = take (f + n - f) (drop f mask) in
          let open' : bit_of window p ≡ false = bit_of_window mask f (f + n - f) p (omega arith) ∙ ap (bit_of mask) back ∙ free in
          let kept_p : is_skipped skipped p ≡ false = is_skip p ∙ ap (is_skipped skip) back ∙ kept in
          let none : is_outside words window skipped p ≡ false = nowhere p (omega arith) inside in
          outside-false (bit_of words p)
          (subst (λ b. (bit_of words p && (not b && not false)) ≡ false) open'
          (subst (λ t. (bit_of words p && (not (bit_of window p) && not t)) ≡ false) kept_p none))
    ]

-- a search among the bits is one among the columns
pub outside_of : {c : Content} {r : ℕ} {b : Bits} → AreBitsOf c r b → (mask : List ℕ) (skip found : Option ℕ) → IsBitOutside b mask skip found
    → MatchOption found ((k : ℕ) → k < length c.columns → bit_of mask k ≡ false → is_skipped skip k ≡ false → has (row_at c.rows r) (get_or c.columns k 0 - 1) ≡ false)
    (λ k. (k < length c.columns) × (bit_of mask k ≡ false) × (is_skipped skip k ≡ false) × (has (row_at c.rows r) (get_or c.columns k 0 - 1) ≡ true))
outside_of of mask skip None none = λ k lt free kept. sym (of.bits k lt) ∙ none k free kept
outside_of of mask skip (Some k) found = let lt = column_of_bit of k found.2 in (lt, found.0, found.1, sym (of.bits k lt) ∙ found.2)

module _ (vars : ℕ) (given : List (List Literal)) (columns places : List ℕ) (parts : List Part) (rows spares : List PackedRow) (no_columns : List ℕ)
    (matrix : IsMatrix vars given columns places (map window parts) rows spares no_columns) (s : Content) (seen : content vars given columns (map window parts) rows ≡ s)
    (r : ℕ) (lt : r < length s.rows) (d : PackedRow) (e : Part) (d_is : d ≡ get_or rows r d) (e_is : e ≡ get_or parts d.part e) (size : ℕ) (size_is : size ≡ length e.columns.items) where
  row_in : r < length rows
  row_in = row_within vars given columns (map window parts) rows r s seen lt

  here : window_at (map window parts) (get_or rows r d).part ≡ window e
  here = row_window vars given columns places parts rows spares no_columns matrix r d e row_in d_is e_is

  low_is : 64 * (e.base / 64) ≡ 64 * ((window_at (map window parts) (get_or rows r d).part).base / 64)
  low_is = ap (λ (w : Window). 64 * (w.base / 64)) (sym here)

  same_words : d.bits ≡ (get_or rows r d).bits
  same_words = ap (λ (q : PackedRow). q.bits) d_is

  bits_are : (k : ℕ) → k < length columns → is_bit_of (64 * (e.base / 64)) d.bits k ≡ has (row_at (content vars given columns (map window parts) rows).rows r) (get_or columns k 0 - 1)
  bits_are k k_in =
      ap (λ ws. is_bit_of (64 * (e.base / 64)) ws k) same_words
      ∙ bit_from (64 * (e.base / 64)) k (get_or rows r d).bits _
      (column_inside vars given columns places (map window parts) rows spares no_columns matrix r d row_in (64 * (e.base / 64)) k low_is k_in)
      (λ below. column_outside vars given columns places (map window parts) rows spares no_columns matrix r d row_in (64 * (e.base / 64)) k low_is k_in (λ le. omega arith))

  within : (k : ℕ) → is_bit_of (64 * (e.base / 64)) d.bits k ≡ true → (e.base ≤ k) × (k < e.base + size)
  within k on =
      elim (cases_lt k (64 * (e.base / 64))) [
        | inl below ↦ absurd (true≢false (sym on ∙ bit_before (64 * (e.base / 64)) k d.bits below))
        | inr le ↦
            let p : ℕ = k - 64 * (e.base / 64) in
            let low : ℕ = 64 * ((window_at (map window parts) (get_or rows r d).part).base / 64) in
            let is_low : 64 * (e.base / 64) ≡ low = low_is in
            let back : low + p ≡ k = omega arith in
            let on_p : bit_of (get_or rows r d).bits p ≡ true = sym (ap (λ ws. bit_of ws p) same_words) ∙ sym (bit_after (64 * (e.base / 64)) k d.bits le) ∙ on in
            let found = column_found vars given columns places (map window parts) rows spares no_columns matrix r d row_in p on_p in
            let span = span_all vars given columns places (map window parts) rows spares no_columns matrix r d row_in (window e) here k (subst (λ j. j < length columns) back found.0)
            (subst (λ j. has (row_at (content vars given columns (map window parts) rows).rows r) (get_or columns j 0 - 1) ≡ true) back found.1) in
            (span.0, rw size_is span.1)
      ]

  right_is : d.right ≡ (row_at (content vars given columns (map window parts) rows).rows r).right
  right_is =
      ap (λ (q : PackedRow). q.right) d_is
      ∙ sym (ap (λ (row : SourcedRow). row.right) (at_row vars given columns places (map window parts) rows spares no_columns matrix r d row_in))

  sum_is : (truths : List ℕ) (values : List Bool) → length truths ≡ words_for (length columns) → length values ≡ vars → HoldsValues (content vars given columns (map window parts) rows) truths values
      → sum_with (bits e.base size d.bits d.right) truths ≡ total (equation (row_at (content vars given columns (map window parts) rows).rows r)) values
  sum_is truths values long wide holds =
      let f : ℕ = e.base / 64 in
      let n : ℕ = length d.bits in
      let cut : n ≡ f + n - f = omega arith in
      ap (λ i. odd_sum (zip2 ◌&&◌ (bits_of d.bits) (bits_of (take i (drop f truths))))) cut
      ∙ row_total vars given columns places (map window parts) rows spares no_columns matrix r d row_in truths d.bits f n values same_words (ap (λ (w : Window). w.base / 64) (sym here)) refl long wide holds

  pub bits_of_row : AreBitsOf s r (bits e.base size d.bits d.right)
  bits_of_row =
      let size_of = sizes vars given columns places parts rows spares no_columns matrix s seen r lt d e d_is e_is in
      let wide = ap (λ (t : Content). length t.columns) seen in
      subst (λ (t : Content). AreBitsOf t r (bits e.base size d.bits d.right)) seen
      (record { room = let a = size_of.0 in let b = size_of.1 in omega arith; inside = let a = size_of.0 in omega arith; bits = bits_are; within = within; right = right_is; sum = sum_is })

  pub are_bits : AreBits e.base size d.bits
  are_bits = let size_of = sizes vars given columns places parts rows spares no_columns matrix s seen r lt d e d_is e_is in
      let a = size_of.0 in let b = size_of.1 in let h = size_of.2 in record { small = omega arith; few = omega arith }
