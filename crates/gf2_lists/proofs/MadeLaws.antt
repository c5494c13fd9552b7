-- Rows made of parities, or of the rows of a matrix.
use Rattle.std.proofs.Common.{◌≡◌, ◌≢◌, ◌⊎◌, ℕ, ◌+◌, ◌-◌, ◌<◌, ◌≤◌, ◌^◌, Bool, true, false, not, ◌&&◌, nat_eq, List, [], ◌∷◌, ◌++◌, map, length, get_or, refl, sym, ap, ◌∙◌, subst, arith, inl, inr, true≢false}
use Rattle.std.specs.Cmp.{both_ways}
use Rattle.std.specs.FinSet as set
use Rattle.std.specs.List.{list_all, range_with_len, AllByRecursion}
use Rattle.std.specs.Simd.Lanes.{zip2}
use Rattle.std.proofs.lemmas.List.{ext_get_or}
use Rattle.std.proofs.lemmas.List.FromFn.{get_or-map-range_with_len, length-map-range_with_len}
use Rattle.std.proofs.lemmas.List.Recursion.{and_from_places}
use Rattle.std.proofs.lemmas.Bool.{cases_lt, cases_eq, eq-eqb, ne_eqb}
use Rattle.cx_base.specs.Literals.{Literal, differ}
use Rattle.cx_base.specs.Parity.{odd_sum, occurs_odd, normal_form}
use Rattle.cx_base.specs.Problem.{AreWithin, parity_met}
use Rattle.cx_base.proofs.Odd.{is_odd-count}
use Rattle.cx_base.proofs.ParityLaws.{contains-normal_form, differ_false}
use Rattle.cx_base.proofs.Differences.{differ_assoc, same-differ}
use Rattle.xor_blast.specs.Pieces.{rising_variables}
use Rattle.xor_blast.proofs.SumLaws.{parity_by_sum}
use Rattle.parity_engine.specs.Written.{AreRising}
use Rattle.parity_engine.proofs.Rising.{columns_rise, column-low, column-high, rises_along}
use Rattle.gf2_matrix.specs.Content.{Content, SourcedRow, row_at, has, AreColumns, IsOfGiven, IsEchelonRow}
use Rattle.gf2_matrix.proofs.FormSums.{all-at, every-at}
use Rattle.gf2_lists.specs.declared.row.ListedRow.{ListedRow}
use Rattle.gf2_lists.specs.Sums.{sum_over, excess}
use Rattle.gf2_lists.specs.Listed.{vars_at, right_at, AreListed, HasOwnFirst}
use Rattle.gf2_lists.specs.Terms.{terms_from}
use Rattle.gf2_lists.specs.Made.{IsRowOf, AreRowsOf, IsListOf, AreListsOf}
use Rattle.gf2_lists.specs.Eliminating.{AreEliminated}
use Rattle.gf2_lists.specs.Echelon.{AreEchelonOf}
use Rattle.gf2_lists.proofs.TermLaws.{total-terms, place_of_bit, bit_of_place, filter_rise, filter_terms}
use Rattle.gf2_lists.proofs.Listing.{excess_met}
use Rattle.gf2_lists.proofs.RowLaws.{vars_front, right_front, vars_last, right_last, length_push}

-- ---- the row of a parity
pub row_made : (lits : List Literal) (vars : List ℕ) (right : Bool) → ((n : ℕ) → AreWithin n lits → vars ≡ rising_variables n lits) → right ≡ (normal_form lits).right_side → IsRowOf lits vars right
row_made lits vars right vars_are right_is = record {
  rises = λ n within. subst (AreRising 1 n) (sym (vars_are n within)) (filter_rise (set.contains (normal_form lits).variables) 1 n n (omega arith));
  met = λ n within v. parity_by_sum n v lits within ∙ (λ i. not (excess (sym (vars_are n within) i) (sym right_is i) v));
}

-- ---- the rows of parities, one after the other
pub rows_none : (parities : List (List Literal)) → AreRowsOf parities [] 0
rows_none parities = record { count = refl; each = λ i lt. absurd (omega arith) }

pub rows_more : (parities : List (List Literal)) (rows : List ListedRow) (n : ℕ) (new : ListedRow) (lits : List Literal) → AreRowsOf parities rows n → lits ≡ get_or parities n [] → IsRowOf lits new.vars.items new.right
    → AreRowsOf parities (rows ++ new ∷ []) (n + 1)
rows_more parities rows n new lits far is made = record {
  count = let e = length_push rows new in let c = far.count in omega arith;
  each = λ i lt.
      let c = far.count in
      elim (cases_lt i (length rows)) [
        | inl front ↦
            subst (λ (l : List ℕ). IsRowOf (get_or parities i []) l (right_at (rows ++ new ∷ []) i)) (sym (vars_front rows new i front))
            (subst (IsRowOf (get_or parities i []) (vars_at rows i)) (sym (right_front rows new i front)) (far.each i (omega arith)))
        | inr last ↦
            let at : i ≡ length rows = omega arith in
            let at' : n ≡ i = omega arith in
            subst (λ (l : List ℕ). IsRowOf (get_or parities i []) l (right_at (rows ++ new ∷ []) i)) (sym (vars_last rows new i at))
            (subst (IsRowOf (get_or parities i []) new.vars.items) (sym (right_last rows new i at))
            (subst (λ (p : List Literal). IsRowOf p new.vars.items new.right) (is ∙ ap (λ (k : ℕ). get_or parities k []) at') made))
      ];
}

not_back : (b : Bool) → not b ≡ true → b ≡ false
not_back true e = sym e
not_back false e = refl

pub rows_listed : (n : ℕ) (parities : List (List Literal)) (rows : List ListedRow) → AllByRecursion (AreWithin n) parities → AreRowsOf parities rows (length parities) → AreListed n rows
rows_listed n parities rows within are i lt = let c = are.count in let i_in : i < length parities = omega arith in (are.each i i_in).rises n (every-at (AreWithin n) parities i [] within i_in)

pub by_lists_are : (n : ℕ) (parities : List (List Literal)) (rows done : List ListedRow) → length parities < 2 ^ 32 → AllByRecursion (AreWithin n) parities → AreRowsOf parities rows (length parities)
    → AreEliminated n rows done → AreEchelonOf n parities done
by_lists_are n parities rows done few within are result =
    let c = are.count in
    let d = result.same.count in
    record {
      few = subst (λ (m : ℕ). m < 2 ^ 32) (sym (d ∙ c)) few;
      listed = result.same.listed;
      sound = λ v long met. result.same.sound v (λ j lt.
          let j_in : j < length parities = omega arith in
          not_back (excess (vars_at rows j) (right_at rows j) v)
          (sym ((are.each j j_in).met n (every-at (AreWithin n) parities j [] within j_in) v) ∙ all-at (parity_met v) parities j [] met j_in));
      complete = λ v long met.
          let before = result.same.complete v met in
          and_from_places (list_all (parity_met v)) (parity_met v) refl (λ _ _. refl) parities []
          (λ j j_in. (are.each j j_in).met n (every-at (AreWithin n) parities j [] within j_in) v ∙ ap not (before j (omega arith)));
      own = result.own;
    }

-- ---- the row of a matrix as literals
occurs_push : (lits : List Literal) (l : Literal) (y : ℕ) → occurs_odd (lits ++ l ∷ []) y ≡ differ (occurs_odd lits y) (nat_eq l.variable y)
occurs_push [] l y = is_odd-count (λ m. nat_eq m.variable y) l [] ∙ differ_false (nat_eq l.variable y)
occurs_push (m ∷ lits) l y =
    is_odd-count (λ k. nat_eq k.variable y) m (lits ++ l ∷ []) ∙ ap (differ (nat_eq m.variable y)) (occurs_push lits l y)
    ∙ sym (differ_assoc (nat_eq m.variable y) (occurs_odd lits y) (nat_eq l.variable y))
    ∙ ap (λ b. differ b (nat_eq l.variable y)) (sym (is_odd-count (λ k. nat_eq k.variable y) m lits))

within_push : (n : ℕ) (lits : List Literal) (l : Literal) → AreWithin n lits → 1 ≤ l.variable → l.variable ≤ n → AreWithin n (lits ++ l ∷ [])
within_push n [] l within low high = ((low, high), tt)
within_push n (m ∷ lits) l within low high = (within.0, within_push n lits l within.1 low high)

-- the literals of the columns below n that the row has
pub record Taken (c : Content) (row : ℕ) (lits : List Literal) (n : ℕ) : Type 0 where
  pub far : n ≤ length c.columns
  pub within : AreWithin c.vars lits
  pub on : (k : ℕ) → k < n → has (row_at c.rows row) (get_or c.columns k 0 - 1) ≡ true → occurs_odd lits (get_or c.columns k 0) ≡ true
  pub of_columns : (y : ℕ) → occurs_odd lits y ≡ true → (k : ℕ) × (k < n) × (get_or c.columns k 0 ≡ y) × (has (row_at c.rows row) (get_or c.columns k 0 - 1) ≡ true)

pub taken_none : (c : Content) (row : ℕ) → Taken c row [] 0
taken_none c row = record { far = omega arith; within = tt; on = λ k lt is. absurd (omega arith); of_columns = λ y is. absurd (true≢false (sym is)) }

true_or : (b : Bool) → (b ≡ true) ⊎ (b ≡ false)
true_or true = inl refl
true_or false = inr refl

pub taken_more : (c : Content) (row : ℕ) (lits : List Literal) (n column : ℕ) (l : Literal) → AreColumns c.vars c.columns → Taken c row lits n → n ≤ column → column < length c.columns
    → has (row_at c.rows row) (get_or c.columns column 0 - 1) ≡ true → ((j : ℕ) → n ≤ j → j < column → has (row_at c.rows row) (get_or c.columns j 0 - 1) ≡ false)
    → l.variable ≡ get_or c.columns column 0 → Taken c row (lits ++ l ∷ []) (column + 1)
taken_more c row lits n column l are far le lt on lacks is = record {
  far = omega arith;
  within = within_push c.vars lits l far.within (let low = are.low column lt in omega arith) (let high = are.high column lt in omega arith);
  on = λ k k_lt k_on.
      elim (cases_eq k column) [
        | inl same ↦
            let at : l.variable ≡ get_or c.columns k 0 = is ∙ ap (λ (j : ℕ). get_or c.columns j 0) (sym same) in
            occurs_push lits l (get_or c.columns k 0)
            ∙ (λ i. differ (fresh (get_or c.columns k 0) (ap (λ (j : ℕ). get_or c.columns j 0) same) i) (eq-eqb l.variable (get_or c.columns k 0) at i))
        | inr other ↦
            let old : k < n = elim (cases_lt k n) [ inl small ↦ small | inr large ↦ absurd (true≢false (sym k_on ∙ lacks k large (omega arith))) ] in
            occurs_push lits l (get_or c.columns k 0)
            ∙ (λ i. differ (far.on k old k_on i) (ne_eqb l.variable (get_or c.columns k 0) (λ e. other (are.apart k column (omega arith) lt (sym e ∙ is))) i))
      ];
  of_columns = λ y y_on.
      elim (cases_eq l.variable y) [
        | inl same ↦ (column, omega arith, sym is ∙ same, on)
        | inr other ↦
            let old = far.of_columns y (sym (occurs_push lits l y ∙ ap (differ (occurs_odd lits y)) (ne_eqb l.variable y other) ∙ differ_false (occurs_odd lits y)) ∙ y_on) in
            let small = old.1 in
            (old.0, omega arith, old.2, old.3)
      ];
}
  where
    fresh : (y : ℕ) → y ≡ get_or c.columns column 0 → occurs_odd lits y ≡ false
    fresh y e =
        elim (true_or (occurs_odd lits y)) [
          | inl y_on ↦
              let old = far.of_columns y y_on in
              let small = old.1 in
              let same = are.apart old.0 column (omega arith) lt (old.2 ∙ e) in
              absurd (omega arith)
          | inr off ↦ off
        ]

pub taken_all : (c : Content) (row : ℕ) (lits : List Literal) (n : ℕ) → IsOfGiven c → row < length c.rows → Taken c row lits n
    → ((k : ℕ) → n ≤ k → k < length c.columns → has (row_at c.rows row) (get_or c.columns k 0 - 1) ≡ false) → (y : ℕ) → 1 ≤ y → occurs_odd lits y ≡ has (row_at c.rows row) (y - 1)
taken_all c row lits n of_given row_in far lacks y low =
    both_ways (occurs_odd lits y) (has (row_at c.rows row) (y - 1))
    (λ is. let at = far.of_columns y is in ap (λ (j : ℕ). has (row_at c.rows row) (j - 1)) (sym at.2) ∙ at.3)
    (λ is.
    let column = of_given.in_columns row row_in (y - 1) is in
    let back : y - 1 + 1 ≡ y = omega arith in
    let here : get_or c.columns column.0 0 ≡ y = column.2 ∙ back in
    let on : has (row_at c.rows row) (get_or c.columns column.0 0 - 1) ≡ true = ap (λ (j : ℕ). has (row_at c.rows row) (j - 1)) here ∙ is in
    elim (cases_lt column.0 n) [
      | inl small ↦ ap (occurs_odd lits) (sym here) ∙ far.on column.0 small on
      | inr large ↦ absurd (true≢false (sym on ∙ lacks column.0 large column.1))
    ])

-- ---- the row of a matrix as a list
pub list_made : (n : ℕ) (row : SourcedRow) (lits : List Literal) (vars : List ℕ) (right : Bool) → length row.terms ≡ n → AreWithin n lits → vars ≡ rising_variables n lits
    → ((y : ℕ) → 1 ≤ y → occurs_odd lits y ≡ has row (y - 1)) → right ≡ row.right → IsListOf n row vars right
list_made n row lits vars right long within vars_are all right_is =
    let p : ℕ → Bool = set.contains (normal_form lits).variables in
    record {
      rises = subst (AreRising 1 n) (sym vars_are) (filter_rise (set.contains (normal_form lits).variables) 1 n n (omega arith));
      terms =
          ap (terms_from 1 n) vars_are ∙ filter_terms (set.contains (normal_form lits).variables) 1 n
          ∙ ext_get_or false (map (set.contains (normal_form lits).variables) (range_with_len 1 n)) row.terms
          (length-map-range_with_len (set.contains (normal_form lits).variables) 1 n ∙ sym long)
          (λ i lt.
          let size = length-map-range_with_len (set.contains (normal_form lits).variables) 1 n in
          let back : 1 + i - 1 ≡ i = omega arith in
          get_or-map-range_with_len (set.contains (normal_form lits).variables) 1 n i (1 + i) false (omega arith) refl
          ∙ contains-normal_form lits (1 + i) ∙ all (1 + i) (omega arith) ∙ ap (has row) back);
      right_is = right_is;
    }

pub lists_none : (n : ℕ) (given : List SourcedRow) → AreListsOf n given [] 0
lists_none n given = record { count = refl; each = λ i lt. absurd (omega arith) }

pub lists_more : (n : ℕ) (given : List SourcedRow) (rows : List ListedRow) (k : ℕ) (new : ListedRow) → AreListsOf n given rows k → IsListOf n (row_at given k) new.vars.items new.right
    → AreListsOf n given (rows ++ new ∷ []) (k + 1)
lists_more n given rows k new far made = record {
  count = let e = length_push rows new in let c = far.count in omega arith;
  each = λ i lt.
      let c = far.count in
      elim (cases_lt i (length rows)) [
        | inl front ↦
            subst (λ (l : List ℕ). IsListOf n (row_at given i) l (right_at (rows ++ new ∷ []) i)) (sym (vars_front rows new i front))
            (subst (IsListOf n (row_at given i) (vars_at rows i)) (sym (right_front rows new i front)) (far.each i (omega arith)))
        | inr last ↦
            let at : i ≡ length rows = omega arith in
            let at' : k ≡ i = omega arith in
            subst (λ (l : List ℕ). IsListOf n (row_at given i) l (right_at (rows ++ new ∷ []) i)) (sym (vars_last rows new i at))
            (subst (IsListOf n (row_at given i) new.vars.items) (sym (right_last rows new i at))
            (subst (λ (j : ℕ). IsListOf n (row_at given j) new.vars.items new.right) at' made))
      ];
}

-- ---- the rows of a matrix in echelon form
module _ (n : ℕ) (c : Content) (rows : List ListedRow) (vars_are : c.vars ≡ n) (of_given : IsOfGiven c) (echelon : (r : ℕ) → r < length c.rows → IsEchelonRow c r)
    (are : AreListsOf n c.rows rows (length c.rows)) where
  inside : (i : ℕ) → i < length rows → i < length c.rows
  inside i lt = let e = are.count in omega arith

  listed_all : AreListed n rows
  listed_all i lt = (are.each i (inside i lt)).rises

  has_bit : (r x : ℕ) → r < length rows → get_or (terms_from 1 n (vars_at rows r)) x false ≡ has (row_at c.rows r) x
  has_bit r x lt = ap (λ ts. get_or ts x false) (are.each r (inside r lt)).terms

  own_first : (r : ℕ) → r < length rows → HasOwnFirst rows r
  own_first r lt j i j_in ne i_in same =
      let rise = listed_all j j_in in
      let p : ℕ = get_or (vars_at rows j) i 0 in
      let low = column-low 1 n (vars_at rows j) i rise i_in in
      let high = column-high 1 n (vars_at rows j) i rise i_in in
      let back : p ≡ p - 1 + 1 = omega arith in
      let some : 0 < length (vars_at rows r) = has_some (vars_at rows r) (sym same) low in
      let on_j : has (row_at c.rows j) (p - 1) ≡ true = sym (has_bit j (p - 1) j_in) ∙ bit_of_place n (vars_at rows j) i (p - 1) rise i_in back (omega arith) in
      let on_r : has (row_at c.rows r) (p - 1) ≡ true = sym (has_bit r (p - 1) lt) ∙ bit_of_place n (vars_at rows r) 0 (p - 1) (listed_all r lt) some (sym same ∙ back) (omega arith) in
      elim (echelon r (inside r lt)) [
        | inl closed ↦ true≢false (sym on_r ∙ closed (p - 1))
        | inr own ↦
            let x : ℕ = own.0 in
            let at = place_of_bit n (vars_at rows r) x (columns_rise 1 n (vars_at rows r) (listed_all r lt)) (has_bit r x lt ∙ own.1.0) in
            let above = rises_along 1 (vars_at rows r) 0 at.0 (columns_rise 1 n (vars_at rows r) (listed_all r lt)) (omega arith) at.1 in
            let e = at.2 in
            let here : x ≡ p - 1 =
            elim (cases_lt (p - 1) x) [ inl below ↦ absurd (true≢false (sym on_r ∙ own.1.1 (p - 1) below)) | inr le ↦ omega arith ] in
            true≢false (sym on_j ∙ ap (has (row_at c.rows j)) (sym here) ∙ own.2 j (inside j j_in) ne)
      ]
    where
      has_some : (xs : List ℕ) → get_or xs 0 0 ≡ get_or (vars_at rows j) i 0 → 1 ≤ get_or (vars_at rows j) i 0 → 0 < length xs
      has_some [] e low = absurd (omega arith)
      has_some (z ∷ xs) e low = omega arith

  sum_bit : (v : List Bool) → length v ≡ n → (i : ℕ) → i < length rows → odd_sum (zip2 ◌&&◌ (row_at c.rows i).terms v) ≡ sum_over (vars_at rows i) v
  sum_bit v long i lt =
      ap (λ ts. odd_sum (zip2 ◌&&◌ ts v)) (sym (are.each i (inside i lt)).terms) ∙ total-terms n (vars_at rows i) v (listed_all i lt) long

  pub by_matrix_are : (parities : List (List Literal)) → c.given ≡ parities → length c.rows < 2 ^ 32 → AreEchelonOf n parities rows
  by_matrix_are parities given_are few =
      let e = are.count in
      record {
        few = subst (λ (m : ℕ). m < 2 ^ 32) (sym are.count) few;
        listed = listed_all;
        sound = λ v long met j lt.
            excess_met (sum_over (vars_at rows j) v) (right_at rows j)
            (sym (sum_bit v long j lt)
            ∙ of_given.sound v (long ∙ sym vars_are) (subst (λ (g : List (List Literal)). list_all (parity_met v) g ≡ true) (sym given_are) met) j (inside j lt)
            ∙ sym (are.each j (inside j lt)).right_is);
        complete = λ v long met.
            subst (λ (g : List (List Literal)). list_all (parity_met v) g ≡ true) given_are
            (of_given.complete v (long ∙ sym vars_are) (λ j j_in.
            let lt : j < length rows = omega arith in
            sum_bit v long j lt ∙ same-differ (sum_over (vars_at rows j) v) (right_at rows j) (met j lt) ∙ (are.each j j_in).right_is));
        own = own_first;
      }
