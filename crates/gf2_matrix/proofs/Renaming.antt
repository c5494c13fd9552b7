-- Rows whose sources have other names.
use Rattle.std.proofs.Common.{◌≡◌, ℕ, ◌+◌, ◌-◌, ◌<◌, ◌≤◌, ◌^◌, ◌≢◌, zero, suc, Bool, true, false, cond, List, [], ◌∷◌, map, length, get_or, set, refl, sym, ap, ◌∙◌, subst, arith, inl, inr}
use Rattle.std.specs.List.{AllByRecursion, list_all}
use Rattle.std.proofs.Math.ListN.{length-set}
use Rattle.std.proofs.lemmas.List.{length-map, get_or-map as get_or-map-within, get_or-set_same, get_or-set_other, ext_get_or}
use Rattle.std.proofs.lemmas.Bool.{cases_eq}
use Rattle.std.proofs.lemmas.List.Recursion.{and_from_places}
use Rattle.std.proofs.lemmas.List.FromFn.{length-map-range_with_len}
use Rattle.cx_base.specs.Literals.{Literal}
use Rattle.cx_base.specs.Problem.{AreWithin, parity_met}
use Rattle.cx_base.specs.Parity.{normal_form, sum_of}
use Rattle.gf2_rows.specs.Bits.{bit_of}
use Rattle.parity_engine.specs.Equations.{Equation, parity_number, form_of, numbered, sum_of_numbers}
use Rattle.parity_engine.specs.Written.{AreRising}
use Rattle.parity_engine.proofs.Rising.{column-low, column-high}
use Rattle.gf2_matrix.specs.declared.packed.PackedRow.{PackedRow}
use Rattle.gf2_matrix.specs.declared.packed.Part.{Part}
use Rattle.gf2_matrix.specs.declared.by_column.ByColumn.{ByColumn}
use Rattle.gf2_matrix.specs.ByColumn.{AreByColumn, IsByColumn}
use Rattle.gf2_matrix.specs.Columns.{place}
use Rattle.gf2_matrix.specs.Views.{picked}
use Rattle.gf2_matrix.specs.Totals.{MeetsEquation}
use Rattle.gf2_matrix.specs.Content.{SourcedRow, no_row, IsLong, IsOfGiven, equation, form, row_at, source_numbers}
use Rattle.gf2_matrix.specs.Packed.{Window, window, window_at, no_window, start, unpacked, unpacked_in, content, IsFitting, IsSized, IsMatrix}
use Rattle.gf2_matrix.specs.Enough.{AreRenamed, SayFirst}
use Rattle.gf2_matrix.proofs.FormSums.{AreNumbers}
use Rattle.gf2_matrix.proofs.Numbered.{numbers_picked}
use Rattle.gf2_matrix.proofs.Pivot.{sound_from_sum}
use Rattle.gf2_matrix.proofs.Rows.{at_row}
use Rattle.gf2_matrix.proofs.Made.{few_columns}
use Rattle.gf2_matrix.proofs.Updates.{same_read}

pub rise_within : (least n m : ℕ) (ns : List ℕ) → AreRising least n ns → n ≤ m → AreRising least m ns
rise_within least n m [] rise le = tt
rise_within least n m (k ∷ ns) rise le = (rise.0, let h = rise.1 in omega arith, rise_within (k + 1) n m ns rise.2 le)

module _ (names : List ℕ) where
  -- the name of number m
  abbrev pub name : ℕ → ℕ
  name m = get_or names (m - 1) 0

  picked_names : (k : ℕ) (words ns : List ℕ) → picked k words (map name ns) ≡ map name (picked k words ns)
  picked_names k words [] = refl
  picked_names k words (n ∷ ns) = go (picked_names (k + 1) words ns) (bit_of words k)
    where
      go : picked (k + 1) words (map name ns) ≡ map name (picked (k + 1) words ns) → (b : Bool) → cond b (name n ∷ picked (k + 1) words (map name ns)) (picked (k + 1) words (map name ns)) ≡ map name (cond b (n ∷ picked (k + 1) words ns) (picked (k + 1) words ns))
      go rest true = ap (λ xs. name n ∷ xs) rest
      go rest false = rest

  picked_within : (count k : ℕ) (words ns : List ℕ) (a : ℕ) → AreRising a count ns → 1 ≤ a → AreNumbers count (picked k words ns)
  picked_within count k words [] a rise low = tt
  picked_within count k words (n ∷ ns) a rise low = go (picked_within count (k + 1) words ns (n + 1) rise.2 (omega arith)) (bit_of words k)
    where
      go : AreNumbers count (picked (k + 1) words ns) → (b : Bool) → AreNumbers count (cond b (n ∷ picked (k + 1) words ns) (picked (k + 1) words ns))
      go rest true = ((let h = rise.0 in omega arith, rise.1), rest)
      go rest false = rest

  -- rising numbers have rising names
  names_rise : (most a b : ℕ) (ns : List ℕ) → AreRising 1 most names → AreRising a (length names) ns → 1 ≤ a
      → ((m : ℕ) → a ≤ m → m ≤ length names → b ≤ get_or names (m - 1) 0) → AreRising b most (map name ns)
  names_rise most a b [] rise numbers low least = tt
  names_rise most a b (n ∷ ns) rise numbers low least =
      let n_low = numbers.0 in
      let n_high = numbers.1 in (
        least n numbers.0 numbers.1,
        column-high 1 most names (n - 1) rise (omega arith),
        names_rise most (n + 1) (get_or names (n - 1) 0 + 1) ns rise numbers.2 (omega arith) (λ m le high. above (n - 1) (m - 1) (omega arith) (omega arith)),
      )
    where
      go : (least' : ℕ) (ms : List ℕ) (i j : ℕ) → AreRising least' most ms → i < j → j < length ms → get_or ms i 0 + 1 ≤ get_or ms j 0
      go least' [] i j r lt inside = absurd (omega arith)
      go least' (m ∷ ms) zero zero r lt inside = absurd (omega arith)
      go least' (m ∷ ms) zero (suc j) r lt inside = column-low (m + 1) most ms j r.2 (omega arith)
      go least' (m ∷ ms) (suc i) zero r lt inside = absurd (omega arith)
      go least' (m ∷ ms) (suc i) (suc j) r lt inside = go (m + 1) ms i j r.2 (omega arith) (omega arith)

      above : (i j : ℕ) → i < j → j < length names → get_or names i 0 + 1 ≤ get_or names j 0
      above i j lt inside = go 1 names i j rise lt inside

  -- the same parities by their names
  same_numbered : (given : List (List Literal)) (ns : List ℕ) → AreNumbers (length names) ns → numbered given (map name ns) ≡ numbered (numbered given names) ns
  same_numbered given [] are = refl
  same_numbered given (n ∷ ns) are =
      let low = are.0.0 in
      let high = are.0.1 in
      let here : parity_number given (get_or names (n - 1) 0) ≡ parity_number (numbered given names) n =
      sym (get_or-map-within (parity_number given) names (n - 1) 0 [] (omega arith)) in
      λ i. here i ∷ same_numbered given ns are.1 i

  abbrev pub renamed : Window → Window
  renamed w = record { base = w.base; columns = w.columns; numbers = w.numbers; sources = map name w.sources }

  module _ (vars : ℕ) (given : List (List Literal)) (columns places : List ℕ) (windows : List Window) (rows spares : List PackedRow) (no_columns : List ℕ)
      (matrix : IsMatrix vars (numbered given names) columns places windows rows spares no_columns) (few_given : length given < 2 ^ 32)
      (within : AllByRecursion (AreWithin vars) given) (say : SayFirst vars given names (length given)) where
    old : ℕ → SourcedRow
    old k = row_at (content vars (numbered given names) columns windows rows).rows k

    new : ℕ → SourcedRow
    new k = row_at (content vars given columns (map renamed windows) rows).rows k

    window_new : (p : ℕ) → p < length windows → window_at (map renamed windows) p ≡ renamed (window_at windows p)
    window_new p p_in = get_or-map-within renamed windows p no_window no_window p_in

    as_many_names : length (numbered given names) ≡ length names
    as_many_names = length-map names (parity_number given)

    no_more : length names ≤ length given
    no_more = few_columns (length given) names say.rise

    row_new : (k : ℕ) (d : PackedRow) → k < length rows → new k ≡ unpacked_in vars (length given) (renamed (window_at windows (get_or rows k d).part)) (get_or rows k d)
    unfolding new
    row_new k d lt =
        get_or-map-within (unpacked vars (length given) (map renamed windows)) rows k d no_row lt
        ∙ ap (λ w. unpacked_in vars (length given) w (get_or rows k d)) (window_new (get_or rows k d).part (matrix.placed k d lt))

    row_old : (k : ℕ) (d : PackedRow) → k < length rows → old k ≡ unpacked_in vars (length (numbered given names)) (window_at windows (get_or rows k d).part) (get_or rows k d)
    unfolding old
    row_old k d lt = at_row vars (numbered given names) columns places windows rows spares no_columns matrix k d lt

    -- the same equation
    equation_new : (k : ℕ) (d : PackedRow) → k < length rows → equation (new k) ≡ equation (old k)
    equation_new k d lt = ap equation (row_new k d lt) ∙ ap equation (sym (row_old k d lt))

    sources_rise_new : (p : ℕ) → p < length windows → AreRising 1 (length given) (map name (window_at windows p).sources)
    sources_rise_new p p_in =
        names_rise (length given) 1 1 (window_at windows p).sources say.rise
        (subst (λ n. AreRising 1 n (window_at windows p).sources) as_many_names (matrix.windows_are.sources_rise p p_in)) (omega arith)
        (λ m low high. column-low 1 (length given) names (m - 1) say.rise (omega arith))

    -- the sources by their names
    sources_new : (k : ℕ) (d : PackedRow) → k < length rows → source_numbers (new k) ≡ map name (source_numbers (old k))
    sources_new k d lt =
        let row : PackedRow = get_or rows k d in
        let w : Window = window_at windows row.part in
        let p_in = matrix.placed k d lt in
        let fits = matrix.fitting k d lt in
        let many = matrix.windows_are.as_many row.part p_in in
        let long : length (map name w.sources) ≡ length w.sources = length-map w.sources name in
        ap source_numbers (row_new k d lt)
        ∙ numbers_picked (length given) (map name w.sources) row.sources (sources_rise_new row.part p_in) (fits.sources_past (length (map name w.sources)) (omega arith))
        ∙ picked_names 0 row.sources w.sources
        ∙ ap (map name) (sym (numbers_picked (length (numbered given names)) w.sources row.sources (matrix.windows_are.sources_rise row.part p_in) (fits.sources_past (length w.sources) (omega arith))))
        ∙ ap (λ r. map name (source_numbers r)) (sym (row_old k d lt))

    within_old : (k : ℕ) (d : PackedRow) → k < length rows → AreNumbers (length names) (source_numbers (old k))
    within_old k d lt =
        let row : PackedRow = get_or rows k d in
        let w : Window = window_at windows row.part in
        let p_in = matrix.placed k d lt in
        let fits = matrix.fitting k d lt in
        let many = matrix.windows_are.as_many row.part p_in in
        let is : source_numbers (old k) ≡ picked 0 row.sources w.sources =
        ap source_numbers (row_old k d lt)
        ∙ numbers_picked (length (numbered given names)) w.sources row.sources (matrix.windows_are.sources_rise row.part p_in) (fits.sources_past (length w.sources) (omega arith)) in
        subst (AreNumbers (length names)) (sym is)
        (picked_within (length names) 0 row.sources w.sources 1 (subst (λ n. AreRising 1 n w.sources) as_many_names (matrix.windows_are.sources_rise row.part p_in)) (omega arith))

    sum_new : (k : ℕ) (d : PackedRow) → k < length rows → form (new k) ≡ sum_of_numbers given (source_numbers (new k))
    unfolding old
    sum_new k d lt =
        ap form_of (equation_new k d lt)
        ∙ matrix.of_given.sums k (let l = length-map rows (unpacked vars (length (numbered given names)) windows) in omega arith)
        ∙ ap (λ ls. sum_of (map normal_form ls)) (sym (same_numbered given (source_numbers (old k)) (within_old k d lt)))
        ∙ ap (sum_of_numbers given) (sym (sources_new k d lt))

    some_row : (rs : List PackedRow) (k : ℕ) → k < length rs → PackedRow
    some_row [] k lt = absurd (omega arith)
    some_row (r ∷ rs) k lt = r

    -- what holds of each window and does not tell its sources
    of_window : (P : ℕ → Window → Type 0) → ((p : ℕ) → p < length windows → P p (renamed (window_at windows p))) → (p : ℕ) → p < length (map renamed windows) → P p (window_at (map renamed windows) p)
    of_window P all p lt =
        let p_in : p < length windows = let l = length-map windows renamed in omega arith in
        subst (P p) (sym (window_new p p_in)) (all p p_in)

    of_given_new : IsOfGiven (content vars given columns (map renamed windows) rows)
    unfolding new old
    of_given_new =
        let count : length (content vars given columns (map renamed windows) rows).rows ≡ length rows = length-map rows (unpacked vars (length given) (map renamed windows)) in
        let before : length (content vars (numbered given names) columns windows rows).rows ≡ length rows = length-map rows (unpacked vars (length (numbered given names)) windows) in
        let row : (k : ℕ) → k < length (content vars given columns (map renamed windows) rows).rows → PackedRow = λ k lt. some_row rows k (omega arith) in
        let same : (k : ℕ) → k < length (content vars given columns (map renamed windows) rows).rows → equation (new k) ≡ equation (old k) = λ k lt. equation_new k (row k lt) (omega arith) in
        let wide : (k : ℕ) → k < length (content vars given columns (map renamed windows) rows).rows → IsLong (content vars given columns (map renamed windows) rows) (new k) =
        λ k lt.
        let w : Window = renamed (window_at windows (get_or rows k (row k lt)).part) in
        let words = get_or rows k (row k lt) in
        subst (IsLong (content vars given columns (map renamed windows) rows)) (sym (row_new k (row k lt) (omega arith))) (
          length-map-range_with_len (λ x. bit_of words.bits (start w + place w.columns (x + 1))) 0 vars,
          length-map-range_with_len (λ x. bit_of words.sources (0 + place w.sources (x + 1))) 0 (length given),
        ) in
        record {
          within = within;
          columns_are = matrix.of_given.columns_are;
          in_columns = λ k lt.
              subst (λ (e : Equation). (x : ℕ) → get_or e.terms x false ≡ true → (i : ℕ) × (i < length columns) × (get_or columns i 0 ≡ x + 1)) (sym (same k lt))
              (matrix.of_given.in_columns k (omega arith));
          long = wide;
          sums = λ k lt. sum_new k (row k lt) (omega arith);
          sound = λ v long met k lt. sound_from_sum vars given (new k) v (wide k lt).0 (wide k lt).1 within (sum_new k (row k lt) (omega arith)) long met;
          complete = λ v long met.
              and_from_places (list_all (parity_met v)) (parity_met v) refl (λ _ _. refl) given []
              (say.enough v long (matrix.of_given.complete v long (λ k lt. subst (MeetsEquation v) (same k (omega arith)) (met k (omega arith)))));
        }

    pub renamed_matrix : IsMatrix vars given columns places (map renamed windows) rows spares no_columns
    renamed_matrix =
        let l = length-map windows renamed in
        let at : (k : ℕ) (d : PackedRow) → k < length rows → window_at (map renamed windows) (get_or rows k d).part ≡ renamed (window_at windows (get_or rows k d).part) =
        λ k d lt. window_new (get_or rows k d).part (matrix.placed k d lt) in
        let known : length (numbered given names) ≤ length given = let a = as_many_names in let b = no_more in omega arith in
        record {
          of_given = of_given_new;
          windows_are = record {
            rise = of_window (λ p w. AreRising 1 vars w.columns) (λ p p_in. matrix.windows_are.rise p p_in);
            numbers_rise = of_window (λ p w. AreRising 1 (length given) w.numbers) (λ p p_in. rise_within 1 (length (numbered given names)) (length given) (window_at windows p).numbers (matrix.windows_are.numbers_rise p p_in) known);
            sources_rise = of_window (λ p w. AreRising 1 (length given) w.sources) sources_rise_new;
            as_many = of_window (λ p w. length w.sources ≡ length w.numbers) (λ p p_in. length-map (window_at windows p).sources name ∙ matrix.windows_are.as_many p p_in);
            room = of_window (λ p w. w.base + length w.columns ≤ length columns) (λ p p_in. matrix.windows_are.room p p_in);
            read = λ p i lt. of_window (λ q w. i < length w.columns → get_or columns (w.base + i) 0 ≡ get_or w.columns i 0) (λ q q_in. matrix.windows_are.read q i q_in) p lt;
            label = matrix.windows_are.label;
            labelled = λ p i lt. of_window (λ q w. i < length w.columns → matrix.windows_are.label (get_or w.columns i 0) ≡ q) (λ q q_in. matrix.windows_are.labelled q i q_in) p lt;
          };
          few = matrix.few;
          few_given = few_given;
          count = let h = matrix.count in omega arith;
          placed = λ k d lt. let h = matrix.placed k d lt in omega arith;
          listed = λ k d lt. subst (λ (w : Window). (i : ℕ) × (i < length w.numbers) × (get_or w.numbers i 0 ≡ k + 1)) (sym (at k d lt)) (matrix.listed k d lt);
          in_rows = λ p i lt. of_window (λ q w. i < length w.numbers → get_or w.numbers i 0 ≤ length rows) (λ q q_in. matrix.in_rows q i q_in) p lt;
          members = λ p i k d lt. of_window (λ q w. i < length w.numbers → get_or w.numbers i 0 ≡ k + 1 → (get_or rows k d).part ≡ q) (λ q q_in. matrix.members q i k d q_in) p lt;
          fitting = λ k d lt.
              let f = matrix.fitting k d lt in
              subst (λ (w : Window). IsFitting w (get_or rows k d)) (sym (at k d lt)) (record { sized = f.sized; before = f.before; past = f.past; sources_past = f.sources_past });
          spares_count = matrix.spares_count ∙ sym l;
          spares_sized = λ p d lt. of_window (λ q w. IsSized w (get_or spares q d)) (λ q q_in. matrix.spares_sized q d q_in) p lt;
          places_count = matrix.places_count;
          places_are = matrix.places_are;
          no_words = matrix.no_words;
          none = matrix.none;
        }

-- ---- parts, one after the other
pub renamed_none : (names : List ℕ) (parts : List Part) → AreRenamed names parts parts 0
renamed_none names parts = record {
  long = refl;
  base = λ p d. refl;
  columns = λ p d. refl;
  numbers = λ p d. refl;
  done = λ p d lt. absurd (omega arith);
  left = λ p d ge. refl;
}

pub renamed_more : (names : List ℕ) (old new : List Part) (n : ℕ) (e placed : Part) → AreRenamed names old new n → n < length old → placed.base ≡ (get_or new n e).base
    → placed.columns.items ≡ (get_or new n e).columns.items → placed.numbers.items ≡ (get_or new n e).numbers.items
    → placed.sources.items ≡ map (λ m. get_or names (m - 1) 0) (get_or new n e).sources.items → AreRenamed names old (set new n placed) (n + 1)
renamed_more names old new n e placed so n_in base columns numbers sources =
    let within : n < length new = let h = so.long in omega arith in
    let here : (d : Part) → get_or (set new n placed) n d ≡ placed = λ d. get_or-set_same new n placed d within in
    let other : (p : ℕ) (d : Part) → p ≢ n → get_or (set new n placed) p d ≡ get_or new p d = λ p d ne. get_or-set_other new n p placed d ne in
    record {
      long = length-set new n placed ∙ so.long;
      base = λ p d.
          elim (cases_eq p n) [
            | inl same ↦
                subst (λ m. (get_or (set new n placed) m d).base ≡ (get_or old m d).base) (sym same)
                (ap (λ (r : Part). r.base) (here d) ∙ base ∙ ap (λ (r : Part). r.base) (same_read new n e d within) ∙ so.base n d)
            | inr ne ↦ ap (λ (r : Part). r.base) (other p d ne) ∙ so.base p d
          ];
      columns = λ p d.
          elim (cases_eq p n) [
            | inl same ↦
                subst (λ m. (get_or (set new n placed) m d).columns.items ≡ (get_or old m d).columns.items) (sym same)
                (ap (λ (r : Part). r.columns.items) (here d) ∙ columns ∙ ap (λ (r : Part). r.columns.items) (same_read new n e d within) ∙ so.columns n d)
            | inr ne ↦ ap (λ (r : Part). r.columns.items) (other p d ne) ∙ so.columns p d
          ];
      numbers = λ p d.
          elim (cases_eq p n) [
            | inl same ↦
                subst (λ m. (get_or (set new n placed) m d).numbers.items ≡ (get_or old m d).numbers.items) (sym same)
                (ap (λ (r : Part). r.numbers.items) (here d) ∙ numbers ∙ ap (λ (r : Part). r.numbers.items) (same_read new n e d within) ∙ so.numbers n d)
            | inr ne ↦ ap (λ (r : Part). r.numbers.items) (other p d ne) ∙ so.numbers p d
          ];
      done = λ p d lt.
          elim (cases_eq p n) [
            | inl same ↦
                subst (λ m. (get_or (set new n placed) m d).sources.items ≡ map (λ k. get_or names (k - 1) 0) (get_or old m d).sources.items) (sym same)
                (ap (λ (r : Part). r.sources.items) (here d) ∙ sources ∙ ap (λ (r : Part). map (λ k. get_or names (k - 1) 0) r.sources.items) (same_read new n e d within)
                ∙ ap (map (λ k. get_or names (k - 1) 0)) (so.left n d (omega arith)))
            | inr ne ↦ ap (λ (r : Part). r.sources.items) (other p d ne) ∙ so.done p d (omega arith)
          ];
      left = λ p d ge. ap (λ (r : Part). r.sources.items) (other p d (λ same. omega arith)) ∙ so.left p d (omega arith);
    }

element : {A : Type 0} (xs : List A) (i : ℕ) → i < length xs → A
element [] i lt = absurd (omega arith)
element (x ∷ xs) i lt = x

pub windows_renamed : (names : List ℕ) (old new : List Part) → AreRenamed names old new (length old) → map window new ≡ map (renamed names) (map window old)
windows_renamed names old new so =
    let long = so.long in
    let l_new = length-map new window in
    let l_old = length-map old window in
    let l_all = length-map (map window old) (renamed names) in
    ext_get_or no_window (map window new) (map (renamed names) (map window old)) (omega arith)
    (λ p lt.
    let d : Part = element new p (omega arith) in
    let here : window (get_or new p d) ≡ renamed names (window (get_or old p d)) =
    λ i. record { base = so.base p d i; columns = so.columns p d i; numbers = so.numbers p d i; sources = so.done p d (omega arith) i } in
    get_or-map-within window new p d no_window (omega arith) ∙ here ∙ ap (renamed names) (sym (get_or-map-within window old p d no_window (omega arith)))
    ∙ sym (get_or-map-within (renamed names) (map window old) p no_window no_window (omega arith)))

-- the sets of rows by column stay
pub by_columns_renamed : (names : List ℕ) (windows : List Window) (rows : List PackedRow) (by_columns : List ByColumn) → AreByColumn windows rows by_columns (length windows)
    → AreByColumn (map (renamed names) windows) rows by_columns (length (map (renamed names) windows))
by_columns_renamed names windows rows by_columns by =
    let l = length-map windows (renamed names) in
    record {
      count = by.count ∙ sym l;
      each = λ p d lt.
          let was = by.each p d (omega arith) in
          subst (λ (w : Window). IsByColumn w rows (get_or by_columns p d)) (sym (get_or-map-within (renamed names) windows p no_window no_window (omega arith)))
          (record { count = was.count; sized = was.sized; room = was.room; bits = was.bits; past = was.past });
    }
