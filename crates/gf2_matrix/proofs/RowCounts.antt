-- The rows that have a column, read off its set.
use Rattle.std.proofs.Common.{◌≡◌, ℕ, ◌+◌, ◌-◌, ◌*◌, ◌<◌, ◌≤◌, zero, suc, Bool, true, false, cond, List, [], ◌∷◌, length, map, get_or, refl, sym, ap, ◌∙◌, subst, arith, inl, inr}
use Rattle.std.specs.List.{count_by, range_with_len}
use Rattle.std.proofs.lemmas.List.{get_or-map, length-map, ext_get_or}
use Rattle.std.proofs.lemmas.List.FromFn.{get_or-map-range_with_len, length-map-range_with_len}
use Rattle.std.proofs.lemmas.List.Sums.{sum_by-cons, sum_by-append}
use Rattle.std.proofs.lemmas.Bool.{cases_eq}
use Rattle.cx_base.specs.Literals.{Literal}
use Rattle.gf2_rows.specs.Bits.{bit_of, bits_of}
use Rattle.gf2_rows.specs.Tables.{words_at}
use Rattle.gf2_rows.proofs.Words.{range_same, range_split, count_of_map}
use Rattle.parity_engine.specs.Written.{AreRising}
use Rattle.parity_engine.proofs.Rising.{columns_rise, column-low, column-high, rises-least}
use Rattle.gf2_matrix.specs.declared.packed.PackedRow.{PackedRow}
use Rattle.gf2_matrix.specs.declared.by_column.ByColumn.{ByColumn}
use Rattle.gf2_matrix.specs.Content.{SourcedRow, IsColumnSet, has, no_row, row_at, rows_with}
use Rattle.gf2_matrix.specs.Packed.{Window, window_at, start, IsMatrix, content, unpacked}
use Rattle.gf2_matrix.specs.ByColumn.{IsByColumn, set_size}
use Rattle.gf2_matrix.proofs.Made.{few_columns}
use Rattle.gf2_matrix.proofs.Choosing.{rise_to}
use Rattle.gf2_matrix.proofs.Rows.{column_bit, pivot_at}
use Rattle.gf2_matrix.proofs.PivotSets.{column_found}
use Rattle.gf2_matrix.proofs.Windows.{peer_listed}
use Rattle.gf2_matrix.proofs.Rarest.{some_row}

-- ---- counts
count_cons : {X : Type 0} (p : X → Bool) (x : X) (xs : List X) → count_by p (x ∷ xs) ≡ cond (p x) 1 0 + count_by p xs
count_cons p x xs = sum_by-cons (λ y. cond (p y) 1 0) x xs

count_same : (f g : ℕ → Bool) (a n : ℕ) → ((k : ℕ) → a ≤ k → k < a + n → f k ≡ g k) → count_by f (range_with_len a n) ≡ count_by g (range_with_len a n)
count_same f g a n same =
    sym (count_of_map f (range_with_len a n)) ∙ ap (count_by (λ b. b)) (range_same f g a n same) ∙ count_of_map g (range_with_len a n)

zero_more : (n : ℕ) → 0 + n ≡ n
zero_more n = omega arith

count_none : (f : ℕ → Bool) (a n : ℕ) → ((k : ℕ) → a ≤ k → k < a + n → f k ≡ false) → count_by f (range_with_len a n) ≡ 0
count_none f a zero none = refl
count_none f a (suc n) none =
    let first = ap (λ b. cond b 1 0 + count_by f (range_with_len (a + 1) n)) (none a (omega arith) (omega arith)) in
    let rest = count_none f (a + 1) n (λ k low high. none k (omega arith) (omega arith)) in
    count_cons f a (range_with_len (a + 1) n) ∙ first ∙ zero_more (count_by f (range_with_len (a + 1) n)) ∙ rest

-- none from n on
count_cut : (f : ℕ → Bool) (n m : ℕ) → n ≤ m → ((k : ℕ) → n ≤ k → k < m → f k ≡ false) → count_by f (range_with_len 0 m) ≡ count_by f (range_with_len 0 n)
count_cut f n m le none =
    let at : n + (m - n) ≡ m = omega arith in
    let rest : count_by f (range_with_len (0 + n) (m - n)) ≡ 0 = count_none f (0 + n) (m - n) (λ k low high. none k (omega arith) (omega arith)) in
    ap (λ q. count_by f (range_with_len 0 q)) (sym at) ∙ ap (count_by f) (range_split 0 n (m - n))
    ∙ sum_by-append (λ y. cond (f y) 1 0) (range_with_len 0 n) (range_with_len (0 + n) (m - n))
    ∙ (let added : (a b : ℕ) → b ≡ 0 → a + b ≡ a = λ a b e. omega arith in added (count_by f (range_with_len 0 n)) (count_by f (range_with_len (0 + n) (m - n))) rest)

-- by the places of a list
count_by_place : {X : Type 0} (p : X → Bool) (xs : List X) (d : X) → count_by p xs ≡ count_by (λ k. p (get_or xs k d)) (range_with_len 0 (length xs))
count_by_place p xs d =
    let at : ℕ → Bool = λ k. p (get_or xs k d) in
    sym (count_of_map p xs)
    ∙ ap (count_by (λ b. b))
    (ext_get_or false (map p xs) (map at (range_with_len 0 (length xs))) (length-map xs p ∙ sym (length-map-range_with_len at 0 (length xs)))
    (λ i lt.
    let small : i < length xs = let l = length-map xs p in omega arith in
    get_or-map p xs i d false small ∙ sym (get_or-map-range_with_len at 0 (length xs) i i false small (omega arith))))
    ∙ count_of_map at (range_with_len 0 (length xs))

-- rising numbers, among which is one more than each place that counts
count_spread : (g : ℕ → Bool) (ns : List ℕ) (a n : ℕ) → AreRising (a + 1) (a + n) ns
    → ((k : ℕ) → a ≤ k → k < a + n → g k ≡ true → (i : ℕ) × (i < length ns) × (get_or ns i 0 ≡ k + 1))
    → count_by g (range_with_len a n) ≡ count_by (λ m. g (m - 1)) ns
count_spread g [] a zero rise listed = refl
count_spread g (m ∷ ms) a zero rise listed = absurd (let low = rise.0 in let high = rise.1 in omega arith)
count_spread g [] a (suc n) rise listed = count_none g a (suc n) (λ k low high. not_true (g k) (λ on. let l = listed k low high on in let lt = l.1 in omega arith))
  where
    not_true : (b : Bool) → (b ≡ true → ⊥) → b ≡ false
    not_true true never = absurd (never refl)
    not_true false never = refl
count_spread g (m ∷ ms) a (suc n) rise listed =
    let end : a + suc n ≡ a + 1 + n = omega arith in
    let ms_rise : AreRising (m + 1) (a + 1 + n) ms = subst (λ e. AreRising (m + 1) e ms) end rise.2 in
    elim (cases_eq m (a + 1)) [
      | inl same ↦
          let back : m - 1 ≡ a = omega arith in
          count_cons g a (range_with_len (a + 1) n)
          ∙ ap (λ c. cond (g a) 1 0 + c)
          (count_spread g ms (a + 1) n (subst (λ e. AreRising (e + 1) (a + 1 + n) ms) same ms_rise)
          (λ k low high on. let l = listed k (omega arith) (omega arith) on in later k (omega arith) l.0 l.1 l.2))
          ∙ ap (λ q. cond (g q) 1 0 + count_by (λ m. g (m - 1)) ms) (sym back)
          ∙ sym (count_cons (λ m. g (m - 1)) m ms)
      | inr ne ↦
          let low = rise.0 in
          let high = rise.1 in
          count_cons g a (range_with_len (a + 1) n) ∙ ap (λ b. cond b 1 0 + count_by g (range_with_len (a + 1) n)) (first_off (omega arith) (g a) refl)
          ∙ zero_more (count_by g (range_with_len (a + 1) n)) ∙ count_spread g (m ∷ ms) (a + 1) n (omega arith, omega arith, ms_rise) (λ k low high on. listed k (omega arith) (omega arith) on)
    ]
  where
    later : (k : ℕ) → m < k + 1 → (i : ℕ) → i < length (m ∷ ms) → get_or (m ∷ ms) i 0 ≡ k + 1 → (j : ℕ) × (j < length ms) × (get_or ms j 0 ≡ k + 1)
    later k above zero lt is = absurd (omega arith)
    later k above (suc i) lt is = (i, omega arith, is)

    first_off : a + 1 < m → (b : Bool) → g a ≡ b → b ≡ false
    first_off above false is = refl
    first_off above true is =
        let l = listed a (omega arith) (omega arith) is in
        let least = rises-least m (m ∷ ms) l.0 (omega arith, columns_rise (m + 1) (a + suc n) ms rise.2) l.1 in
        let at = l.2 in
        absurd (omega arith)

-- ---- the rows of a set
module _ (vars : ℕ) (given : List (List Literal)) (columns places : List ℕ) (windows : List Window) (rows spares : List PackedRow) (no_columns : List ℕ)
    (matrix : IsMatrix vars given columns places windows rows spares no_columns) (r : ℕ) (d : PackedRow) (r_in : r < length rows) (w : Window)
    (here : window_at windows (get_or rows r d).part ≡ w) (c : ByColumn) (by : IsByColumn w rows c) (i : ℕ) (i_in : i < length w.columns)
    (on : has (row_at (content vars given columns windows rows).rows r) (get_or w.columns i 0 - 1) ≡ true) where
  all : List SourcedRow
  all = (content vars given columns windows rows).rows

  x : ℕ
  x = get_or w.columns i 0 - 1

  words : List ℕ
  words = words_at c.sets i

  has_x : ℕ → Bool
  has_x k = has (row_at all k) x

  long : length all ≡ length rows
  unfolding all
  long = length-map rows (unpacked vars (length given) windows)

  rise : AreRising 1 (length rows) w.numbers
  rise =
      rise_to 1 (length given) (length rows) w.numbers
      (subst (λ (v : Window). AreRising 1 (length given) v.numbers) here (matrix.windows_are.numbers_rise (get_or rows r d).part (matrix.placed r d r_in)))
      (subst (λ (v : Window). (i : ℕ) → i < length v.numbers → get_or v.numbers i 0 ≤ length rows) here (λ i lt. matrix.in_rows (get_or rows r d).part i (matrix.placed r d r_in) lt))

  -- the bit of a number is whether its row has the column
  set_bit : (m k : ℕ) → m < length w.numbers → get_or w.numbers m 0 ≡ k + 1 → bit_of words m ≡ has_x k
  unfolding all x words has_x
  set_bit m k m_in at =
      let p : ℕ = (get_or rows r d).part in
      let high = column-high 1 (length rows) w.numbers m rise m_in in
      let k_in : k < length rows = omega arith in
      let part : (get_or rows k d).part ≡ p =
      subst (λ (v : Window). m < length v.numbers → get_or v.numbers m 0 ≡ k + 1 → (get_or rows k d).part ≡ p) here (matrix.members p m k d (matrix.placed r d r_in)) m_in at in
      let there : window_at windows (get_or rows k d).part ≡ w = ap (window_at windows) part ∙ here in
      by.bits i m k d i_in m_in at
      ∙ subst (λ (v : Window). i < length v.columns
      → bit_of (get_or rows k d).bits (start v + i) ≡ has (row_at (content vars given columns windows rows).rows k) (get_or v.columns i 0 - 1)) there
      (column_bit vars given columns places windows rows spares no_columns matrix k d k_in i) i_in

  -- each row that has the column has a number
  listed : (k : ℕ) → k < length rows → has_x k ≡ true → (m : ℕ) × (m < length w.numbers) × (get_or w.numbers m 0 ≡ k + 1)
  unfolding all x has_x
  listed k k_in has_k =
      subst (λ (v : Window). (m : ℕ) × (m < length v.numbers) × (get_or v.numbers m 0 ≡ k + 1)) here
      (peer_listed vars given columns places windows rows spares no_columns matrix r d r_in (get_or w.columns i 0 - 1) k on k_in has_k)

  room : length w.numbers ≤ 64 * length words
  unfolding words
  room = let count = by.count in let size = by.sized i (omega arith) in omega arith

  counted : count_by (λ b. b) (bits_of words) ≡ count_by (bit_of words) (range_with_len 0 (64 * length words))
  unfolding bits_of
  counted = count_of_map (bit_of words) (range_with_len 0 (64 * length words))

  -- the set has as many rows as have the column
  pub rows_of_set : set_size (words_at c.sets i) ≡ rows_with (content vars given columns windows rows).rows (get_or w.columns i 0 - 1)
  unfolding all x words has_x
  rows_of_set =
      let g : ℕ → Bool = has_x in
      counted
      ∙ count_cut (bit_of words) (length w.numbers) (64 * length words) room (λ m ge lt. by.past i m i_in ge)
      ∙ count_same (bit_of words) (λ m. g (get_or w.numbers m 0 - 1)) 0 (length w.numbers)
      (λ m ge lt.
      let m_in : m < length w.numbers = omega arith in
      let low = column-low 1 (length rows) w.numbers m rise m_in in
      set_bit m (get_or w.numbers m 0 - 1) m_in (omega arith))
      ∙ sym (count_by_place (λ m. g (m - 1)) w.numbers 0)
      ∙ sym (count_spread g w.numbers 0 (length rows) (subst (λ n. AreRising 1 n w.numbers) (sym (zero_more (length rows))) rise) (λ k ge lt has_k. listed k (omega arith) has_k))
      ∙ ap (λ n. count_by g (range_with_len 0 n)) (sym long)
      ∙ sym (count_by_place (λ (row : SourcedRow). has row x) all no_row)

  -- the part's numbers and the set's words are those of the column
  pub column_set : IsColumnSet (content vars given columns windows rows).rows (get_or w.columns i 0 - 1) w.numbers (words_at c.sets i)
  unfolding all x words has_x
  column_set =
      let size = by.sized i (let count = by.count in omega arith) in
      let few = few_columns (length rows) w.numbers rise in
      record {
        rise = columns_rise 1 (length rows) w.numbers rise;
        high = λ m m_in. let top = column-high 1 (length rows) w.numbers m rise m_in in let l = long in omega arith;
        few = let count = matrix.count in let small = matrix.few_given in omega arith;
        room = room;
        bits = λ m m_in. let low = column-low 1 (length rows) w.numbers m rise m_in in set_bit m (get_or w.numbers m 0 - 1) m_in (omega arith);
        all = λ k k_in on_k. listed k (let l = long in omega arith) on_k;
      }

-- ---- the row's columns
module _ (vars : ℕ) (given : List (List Literal)) (columns places : List ℕ) (windows : List Window) (rows spares : List PackedRow) (no_columns : List ℕ)
    (matrix : IsMatrix vars given columns places windows rows spares no_columns) (r : ℕ) (d : PackedRow) (r_in : r < length rows) (w : Window)
    (here : window_at windows (get_or rows r d).part ≡ w) (c : ByColumn) (by : IsByColumn w rows c) where
  -- where a column that the row has stands in the part
  pub column_at : (k : ℕ) → k < length columns → has (row_at (content vars given columns windows rows).rows r) (get_or columns k 0 - 1) ≡ true
      → (i : ℕ) × (i < length w.columns) × (k ≡ w.base + i) × (get_or columns k 0 ≡ get_or w.columns i 0)
  column_at k k_in on =
      let at = pivot_at vars given columns places windows rows spares no_columns r d matrix r_in k k_in on in
      subst (λ (v : Window). (i : ℕ) × (i < length v.columns) × (k ≡ v.base + i) × (get_or columns k 0 ≡ get_or v.columns i 0)) here
      (at.0, at.1, at.2, ap (λ j. get_or columns j 0) at.2 ∙ matrix.windows_are.read (get_or rows r d).part at.0 (matrix.placed r d r_in) at.1)

  -- none of them stands in fewer rows than the one whose set has no more rows than theirs
  pub rarest_of_row : (bits : List ℕ) → bits ≡ (get_or rows r d).bits → (i : ℕ) → i < length w.columns → bit_of bits (start w + i) ≡ true
      → ((j : ℕ) → j < length c.sets → bit_of bits (start w + j) ≡ true → set_size (words_at c.sets i) ≤ set_size (words_at c.sets j))
      → (k : ℕ) → k < length columns → has (row_at (content vars given columns windows rows).rows r) (get_or columns k 0 - 1) ≡ true
      → rows_with (content vars given columns windows rows).rows (get_or columns (w.base + i) 0 - 1) ≤ rows_with (content vars given columns windows rows).rows (get_or columns k 0 - 1)
  rarest_of_row bits bits_are i i_in set_i least k k_in on_k =
      let all : List SourcedRow = (content vars given columns windows rows).rows in
      let found = column_found vars given columns places windows rows spares no_columns matrix r d r_in w here bits bits_are i i_in set_i in
      let first = column_at (w.base + i) found.0 found.1 in
      let first_is : first.0 ≡ i = let e = first.2 in omega arith in
      let read_i : get_or columns (w.base + i) 0 ≡ get_or w.columns i 0 = first.3 ∙ ap (λ j. get_or w.columns j 0) first_is in
      let second = column_at k k_in on_k in
      let j : ℕ = second.0 in
      let j_in : j < length w.columns = second.1 in
      let on_j : has (row_at all r) (get_or w.columns j 0 - 1) ≡ true = ap (λ v. has (row_at all r) (v - 1)) (sym second.3) ∙ on_k in
      let set_j : bit_of bits (start w + j) ≡ true =
      ap (λ ws. bit_of ws (start w + j)) bits_are
      ∙ subst (λ (v : Window). j < length v.columns → bit_of (get_or rows r d).bits (start v + j) ≡ has (row_at all r) (get_or v.columns j 0 - 1)) here
      (column_bit vars given columns places windows rows spares no_columns matrix r d r_in j) j_in
      ∙ on_j in
      let count = by.count in
      let size_i =
      rows_of_set vars given columns places windows rows spares no_columns matrix r d r_in w here c by i i_in (ap (λ v. has (row_at all r) (v - 1)) (sym read_i) ∙ found.1) in
      let size_j = rows_of_set vars given columns places windows rows spares no_columns matrix r d r_in w here c by j j_in on_j in
      let le = least j (omega arith) set_j in
      let e_i : rows_with all (get_or columns (w.base + i) 0 - 1) ≡ set_size (words_at c.sets i) = ap (λ v. rows_with all (v - 1)) read_i ∙ sym size_i in
      let e_j : rows_with all (get_or columns k 0 - 1) ≡ set_size (words_at c.sets j) = ap (λ v. rows_with all (v - 1)) second.3 ∙ sym size_j in
      rw (e_i, e_j) le

  -- some row is in the set of each
  pub counted_of_row : (bits : List ℕ) → bits ≡ (get_or rows r d).bits → (i : ℕ) → i < length w.columns → bit_of bits (start w + i) ≡ true → 1 ≤ set_size (words_at c.sets i)
  counted_of_row bits bits_are i i_in set_i =
      let all : List SourcedRow = (content vars given columns windows rows).rows in
      let found = column_found vars given columns places windows rows spares no_columns matrix r d r_in w here bits bits_are i i_in set_i in
      let at = column_at (w.base + i) found.0 found.1 in
      let at_is : at.0 ≡ i = let e = at.2 in omega arith in
      let read : get_or columns (w.base + i) 0 ≡ get_or w.columns i 0 = at.3 ∙ ap (λ j. get_or w.columns j 0) at_is in
      let on : has (row_at all r) (get_or w.columns i 0 - 1) ≡ true = ap (λ v. has (row_at all r) (v - 1)) (sym read) ∙ found.1 in
      let size = rows_of_set vars given columns places windows rows spares no_columns matrix r d r_in w here c by i i_in on in
      let inside : r < length all = let long = length-map rows (unpacked vars (length given) windows) in omega arith in
      let one = some_row all r (get_or w.columns i 0 - 1) inside on in
      rw size one
