-- Where the words of a row stand among those of a mask.
use Rattle.std.proofs.Common.{◌≡◌, ℕ, ◌+◌, ◌-◌, ◌*◌, ◌/◌, ◌%◌, ◌<◌, ◌≤◌, ◌^◌, List, length, map, take, drop, length-take, length-drop, get_or, Fits, sym, ap, subst, ◌∙◌, arith}
use Rattle.std.proofs.lemmas.List.{length-map}
use Rattle.cx_base.specs.Literals.{Literal}
use Rattle.cx_base.specs.declared.literal.TheConstants.{MAX_VARIABLE}
use Rattle.gf2_matrix.specs.declared.packed.PackedRow.{PackedRow}
use Rattle.gf2_matrix.specs.declared.packed.Part.{Part}
use Rattle.gf2_matrix.specs.Content.{Content}
use Rattle.gf2_matrix.specs.Views.{words_for}
use Rattle.gf2_matrix.specs.Packed.{Window, window, unpacked, content, IsMatrix}
use Rattle.gf2_matrix.specs.declared.by_column.ByColumn.{ByColumn}
use Rattle.gf2_matrix.specs.ByColumn.{AreByColumn}
use Rattle.gf2_matrix.proofs.Rows.{row_within, row_window}
use Rattle.gf2_matrix.proofs.Windows.{window_in}
use mir.Syntax.{w32, w64}

-- the words from `first` on are in the mask, whose bits have small numbers
pub record HasRoom (first size mask : ℕ) : Type 0 where
  pub inside : first + size ≤ mask
  pub small : 64 * mask < 2 ^ 32

pub end_fits : {first size mask : ℕ} → HasRoom first size mask → Fits w64 (first + size)
end_fits room = omega arith

pub offset_fits : {first size mask : ℕ} → HasRoom first size mask → Fits w64 (first * 8)
offset_fits room = omega arith

pub bit_fits : {first size mask : ℕ} → HasRoom first size mask → Fits w64 (64 * first)
bit_fits room = omega arith

pub bit_small : {first size mask : ℕ} → HasRoom first size mask → 64 * first < 2 ^ 32
bit_small room = omega arith

pub bits_fit : {first size mask : ℕ} → HasRoom first size mask → Fits w64 (64 * size)
bits_fit room = omega arith

pub place_fits : {first size mask : ℕ} (k : ℕ) → HasRoom first size mask → k < 64 * size → Fits w64 (64 * first + k)
place_fits k room lt = omega arith

pub start_before : (first size : ℕ) → first ≤ first + size
start_before first size = omega arith

pub few_words : {first size mask : ℕ} → HasRoom first size mask → size < 2 ^ 32
few_words room = omega arith

pub window_long : (mask : List ℕ) {first size : ℕ} → HasRoom first size (length mask) → size ≡ length (take (first + size - first) (drop first mask))
window_long mask {first} {size} room = omega (arith, length-take (first + size - first) (drop first mask), length-drop first mask)

module _ (vars : ℕ) (given : List (List Literal)) (columns places : List ℕ) (parts : List Part) (rows spares : List PackedRow) (no_columns : List ℕ)
    (matrix : IsMatrix vars given columns places (map window parts) rows spares no_columns) (s : Content) (seen : content vars given columns (map window parts) rows ≡ s)
    (r : ℕ) (lt : r < length s.rows) where
  pub row_there : (count : ℕ) → count ≡ length rows → r < count
  row_there count is = subst (λ n. r < n) (sym is) (row_within vars given columns (map window parts) rows r s seen lt)

  pub part_there : (d : PackedRow) → d ≡ get_or rows r d → (count : ℕ) → count ≡ length parts → d.part < count
  part_there d d_is count is =
      let placed : d.part < length (map window parts) =
      subst (λ (q : PackedRow). q.part < length (map window parts)) (sym d_is) (matrix.placed r d (row_within vars given columns (map window parts) rows r s seen lt)) in
      subst (λ n. d.part < n) (sym is) (subst (λ n. d.part < n) (length-map parts window) placed)

  pub spare_there : (d : PackedRow) → d ≡ get_or rows r d → (count : ℕ) → count ≡ length spares → d.part < count
  spare_there d d_is count is = part_there d d_is count (is ∙ matrix.spares_count ∙ length-map parts window)

  pub by_column_there : (by_columns : List ByColumn) → AreByColumn (map window parts) rows by_columns (length (map window parts))
      → (d : PackedRow) → d ≡ get_or rows r d → (count : ℕ) → count ≡ length by_columns → d.part < count
  by_column_there by_columns by d d_is count is = part_there d d_is count (is ∙ by.count ∙ length-map parts window)

  -- the number of the row is small
  pub number_fits : Fits w32 (r + 1)
  number_fits =
      let within = row_within vars given columns (map window parts) rows r s seen lt in
      let few = matrix.few_given in
      let count = matrix.count in
      omega arith

  pub row_fits : Fits w32 r
  row_fits =
      let within = row_within vars given columns (map window parts) rows r s seen lt in
      let few = matrix.few_given in
      let count = matrix.count in
      omega arith

  pub from_fits : (from : ℕ) → from ≤ length s.rows → Fits w32 from
  from_fits from le =
      let long = length-map rows (unpacked vars (length given) (map window parts)) in
      let same = ap (λ (t : Content). length t.rows) seen in
      let few = matrix.few_given in
      let count = matrix.count in
      omega arith

  -- the row's words are those for its part's columns, which are among all columns
  pub sizes : (d : PackedRow) (e : Part) → d ≡ get_or rows r d → e ≡ get_or parts d.part e
      → (e.base + length e.columns.items ≤ length s.columns) × (length d.bits ≡ words_for (e.base % 64 + length e.columns.items)) × (length s.columns ≤ MAX_VARIABLE)
  sizes d e d_is e_is =
      let row_in = row_within vars given columns (map window parts) rows r s seen lt in
      let here = row_window vars given columns places parts rows spares no_columns matrix r d e row_in d_is e_is in
      let base = ap (λ (w : Window). w.base) here in
      let long = ap (λ (w : Window). length w.columns) here in
      let same = ap (λ (q : PackedRow). length q.bits) d_is in
      let wide = ap (λ (t : Content). length t.columns) seen in
      let room = matrix.windows_are.room (get_or rows r d).part (matrix.placed r d row_in) in
      let sized = (matrix.fitting r d row_in).sized.0 in
      let few = matrix.of_given.columns_are.few in
      let small = matrix.few in
      (omega arith, omega arith, omega arith)

  pub span_inside : (d : PackedRow) (e : Part) → d ≡ get_or rows r d → e ≡ get_or parts d.part e → (size : ℕ) → size ≡ e.columns.len → e.base + size ≤ length s.columns
  span_inside d e d_is e_is size is = let h = (sizes d e d_is e_is).0 in let counted = e.columns.ok.0 in omega arith

  pub low_fits : (d : PackedRow) (e : Part) → d ≡ get_or rows r d → e ≡ get_or parts d.part e → (first : ℕ) → first ≡ e.base / 64 → Fits w64 (64 * first)
  low_fits d e d_is e_is first is = let h = sizes d e d_is e_is in omega arith

  pub words_fit : (d : PackedRow) (e : Part) → d ≡ get_or rows r d → e ≡ get_or parts d.part e → (size : ℕ) → size ≡ length d.bits → Fits w64 (64 * size)
  words_fit d e d_is e_is size is = let h = sizes d e d_is e_is in omega arith

  pub words_few : (d : PackedRow) (e : Part) → d ≡ get_or rows r d → e ≡ get_or parts d.part e → (bits : List ℕ) → bits ≡ d.bits → length bits < 2 ^ 32
  words_few d e d_is e_is bits is = let h = sizes d e d_is e_is in let same = ap length is in omega arith

  pub start_within : (d : PackedRow) (e : Part) → d ≡ get_or rows r d → e ≡ get_or parts d.part e → (bits : List ℕ) → bits ≡ d.bits → (start : ℕ) → start ≡ e.base % 64
      → start ≤ 64 * length bits
  start_within d e d_is e_is bits is start start_is = let h = sizes d e d_is e_is in let same = ap length is in omega arith

  pub row_room : (d : PackedRow) (e : Part) → d ≡ get_or rows r d → e ≡ get_or parts d.part e
      → (mask : List ℕ) → length mask ≡ words_for (length s.columns) → (first size : ℕ) → first ≡ e.base / 64 → size ≡ length d.bits → HasRoom first size (length mask)
  row_room d e d_is e_is mask long first size first_is size_is =
      let row_in = row_within vars given columns (map window parts) rows r s seen lt in
      let here = row_window vars given columns places parts rows spares no_columns matrix r d e row_in d_is e_is in
      let base = ap (λ (w : Window). w.base) here in
      let same = ap (λ (q : PackedRow). length q.bits) d_is in
      let wide = ap (λ (t : Content). length t.columns) seen in
      let inside = window_in vars given columns places (map window parts) rows spares no_columns matrix r d row_in in
      let few = matrix.of_given.columns_are.few in
      let small = matrix.few in
      record { inside = omega arith; small = omega arith }
