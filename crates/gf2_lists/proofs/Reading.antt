-- What is read of listed rows, as their content says it.
use Rattle.std.proofs.Common.{◌≡◌, ℕ, ◌+◌, ◌-◌, ◌<◌, ◌≤◌, true, false, nat_eq, List, [], ◌∷◌, map, length, get_or, refl, sym, ap, ◌∙◌, subst, arith, inl, inr}
use Rattle.std.specs.List.{list_any}
use Rattle.std.proofs.lemmas.List.{length-map, get_or_default}
use Rattle.std.proofs.lemmas.List.Folds.{list_any_at}
use Rattle.std.proofs.lemmas.Bool.{cases_lt, eq-eqb}
use Rattle.cx_base.specs.Literals.{Literal}
use Rattle.parity_engine.specs.Written.{AreRising}
use Rattle.parity_engine.proofs.Rising.{columns_rise, column-low, column-high, rises_along}
use Rattle.gf2_matrix.specs.Columns.{place}
use Rattle.gf2_matrix.specs.Content.{Content, row_at, has, IsLeastOf}
use Rattle.gf2_matrix.proofs.Columns.{place_found}
use Rattle.gf2_matrix.proofs.Rows.{rising_apart}
use Rattle.gf2_lists.specs.declared.row.ListedRow.{ListedRow}
use Rattle.gf2_lists.specs.Listed.{vars_at, AreListed}
use Rattle.gf2_lists.specs.Terms.{listed_row, listed}
use Rattle.gf2_lists.specs.Occurring.{HaveColumns}
use Rattle.gf2_lists.proofs.RowLaws.{read_vars}
use Rattle.gf2_lists.proofs.Listing.{read_least, read_first, read_has, lacks_below}

pub rise_few : (least most : ℕ) (xs : List ℕ) → AreRising least most xs → length xs ≤ most + 1 - least
rise_few least most [] rise = omega arith
rise_few least most (x ∷ xs) rise = let low = rise.0 in let high = rise.1 in let h = rise_few (x + 1) most xs rise.2 in omega arith

-- numbers before one are below it
below_later : (most : ℕ) (xs : List ℕ) (i j : ℕ) → AreRising 1 most xs → i < j → j < length xs → get_or xs i 0 < get_or xs j 0
below_later most xs i j rise lt j_in =
    let le = rises_along 1 xs i j (columns_rise 1 most xs rise) (omega arith) j_in in
    elim (cases_lt (get_or xs i 0) (get_or xs j 0)) [
      | inl less ↦ less
      | inr more ↦ let same = rising_apart 1 most xs i j rise (omega arith) j_in (omega arith) in absurd (omega arith)
    ]

none_of : (xs : List ℕ) → length xs ≡ 0 → xs ≡ []
none_of [] e = refl
none_of (x ∷ xs) e = absurd (omega arith)

module _ (n : ℕ) (given : List (List Literal)) (columns : List ℕ) (rows : List ListedRow) (are_listed : AreListed n rows) (c : Content) (view : listed n given columns rows ≡ c) where
  pub inside_rows : (r : ℕ) → r < length c.rows → r < length rows
  inside_rows r lt = subst (λ (k : ℕ). r < k) (sym (ap (λ (t : Content). length t.rows) view) ∙ length-map rows (listed_row n)) lt

  pub row_rises : (r : ℕ) (d : ListedRow) (items : List ℕ) → r < length c.rows → d ≡ get_or rows r d → items ≡ d.vars.items → AreRising 1 n items
  row_rises r d items lt is same = subst (AreRising 1 n) (read_vars rows r d (inside_rows r lt) is ∙ sym same) (are_listed r (inside_rows r lt))

  pub least_none : (r : ℕ) (d : ListedRow) → r < length c.rows → d ≡ get_or rows r d → length d.vars.items ≡ 0 → (x : ℕ) → has (row_at c.rows r) x ≡ false
  least_none r d lt is empty x =
      ap (λ (t : Content). has (row_at t.rows r) x) (sym view)
      ∙ read_least n given columns rows are_listed r d.vars.items (inside_rows r lt) (sym (read_vars rows r d (inside_rows r lt) is)) (none_of d.vars.items empty) x

  pub first_in : (r y : ℕ) (d : ListedRow) → r < length c.rows → d ≡ get_or rows r d → 0 < length d.vars.items → y ≡ get_or d.vars.items 0 y → (1 ≤ y) × (y ≤ c.vars) × IsLeastOf c r (y - 1)
  first_in r y d lt is some y_is =
      subst (λ (t : Content). (1 ≤ y) × (y ≤ t.vars) × IsLeastOf t r (y - 1)) view
      (subst (λ (z : ℕ). (1 ≤ z) × (z ≤ n) × IsLeastOf (listed n given columns rows) r (z - 1)) (sym (y_is ∙ get_or_default d.vars.items 0 y 0 some))
      (read_first n given columns rows are_listed r d.vars.items (inside_rows r lt) (sym (read_vars rows r d (inside_rows r lt) is)) some))

  pub has_in : (r v : ℕ) (d : ListedRow) (items : List ℕ) → r < length c.rows → d ≡ get_or rows r d → items ≡ d.vars.items → 1 ≤ v → v ≤ c.vars
      → list_any (λ y. nat_eq y v) items ≡ has (row_at c.rows r) (v - 1)
  has_in r v d items lt is same low high =
      read_has n given columns rows are_listed r v items (inside_rows r lt) (same ∙ sym (read_vars rows r d (inside_rows r lt) is)) low
      (subst (λ (k : ℕ). v ≤ k) (sym (ap (λ (t : Content). t.vars) view)) high)
      ∙ ap (λ (t : Content). has (row_at t.rows r) (v - 1)) view

  module _ (rise : AreRising 1 n columns) (r from p bound : ℕ) (d : ListedRow) (items : List ℕ) (lt : r < length c.rows) (is : d ≡ get_or rows r d) (same : items ≡ d.vars.items)
      (from_in : from < length columns) (bound_is : bound ≡ get_or columns from 0) (before : (i : ℕ) → i < p → get_or items i 0 < bound) where
    lacks : (j : ℕ) → from ≤ j → j < length columns → ((i : ℕ) → p ≤ i → i < length items → get_or columns j 0 < get_or items i 0)
        → has (row_at (map (listed_row n) rows) r) (get_or columns j 0 - 1) ≡ false
    lacks j le j_in after =
        lacks_below n given columns rows are_listed rise r from p items (inside_rows r lt) (same ∙ sym (read_vars rows r d (inside_rows r lt) is)) from_in
        (λ i i_lt. let h = before i i_lt in omega arith) j le j_in after

    pub next_none : length items ≤ p → (k : ℕ) → from ≤ k → k < length c.columns → has (row_at c.rows r) (get_or c.columns k 0 - 1) ≡ false
    next_none past =
        subst (λ (t : Content). (k : ℕ) → from ≤ k → k < length t.columns → has (row_at t.rows r) (get_or t.columns k 0 - 1) ≡ false) view
        (λ k le k_in. lacks k le k_in (λ i i_ge i_in. absurd (omega arith)))

    pub next_some : HaveColumns rows columns → ((i : ℕ) → p ≤ i → i < length items → bound ≤ get_or items i 0) → p < length items → (y at : ℕ) → y ≡ get_or d.vars.items p y → at ≡ place columns y
        → (from ≤ at) × (at < length c.columns) × (has (row_at c.rows r) (get_or c.columns at 0 - 1) ≡ true)
        × ((j : ℕ) → from ≤ j → j < at → has (row_at c.rows r) (get_or c.columns j 0 - 1) ≡ false)
    next_some have after p_in y at y_is at_is =
        let r_in = inside_rows r lt in
        let own : vars_at rows r ≡ items = read_vars rows r d r_in is ∙ sym same in
        let item : y ≡ get_or items p 0 =
        y_is ∙ ap (λ (l : List ℕ). get_or l p y) (sym same) ∙ get_or_default items p y 0 p_in in
        let column = have r p r_in (subst (λ (l : List ℕ). p < length l) (sym own) p_in) in
        let k : ℕ = column.0 in
        let k_in : k < length columns = column.1 in
        let there : get_or columns k 0 ≡ get_or items p 0 = column.2 ∙ ap (λ (l : List ℕ). get_or l p 0) own in
        let here : k ≡ at = sym (at_is ∙ ap (place columns) (item ∙ sym there) ∙ place_found 1 columns k (columns_rise 1 n columns rise) k_in) in
        let high = after p (omega arith) p_in in
        let from_le : from ≤ k =
        elim (cases_lt k from) [ inl less ↦ absurd (let h = below_later n columns k from rise less from_in in omega arith) | inr le ↦ le ] in
        let low = column-low 1 n columns k rise k_in in
        let top = column-high 1 n columns k rise k_in in
        let on : has (row_at (map (listed_row n) rows) r) (get_or columns k 0 - 1) ≡ true =
        sym (read_has n given columns rows are_listed r (get_or columns k 0) items r_in (sym own) low top)
        ∙ list_any_at (λ z. nat_eq z (get_or columns k 0)) items p 0 p_in (eq-eqb (get_or items p 0) (get_or columns k 0) (sym there)) in
        subst (λ (t : Content). (from ≤ at) × (at < length t.columns) × (has (row_at t.rows r) (get_or t.columns at 0 - 1) ≡ true)
        × ((j : ℕ) → from ≤ j → j < at → has (row_at t.rows r) (get_or t.columns j 0 - 1) ≡ false)) view
        (subst (λ (a : ℕ). (from ≤ a) × (a < length columns) × (has (row_at (map (listed_row n) rows) r) (get_or columns a 0 - 1) ≡ true)
        × ((j : ℕ) → from ≤ j → j < a → has (row_at (map (listed_row n) rows) r) (get_or columns j 0 - 1) ≡ false)) here (
          from_le,
          k_in,
          on,
          λ j le j_lt.
              lacks j le (omega arith)
              (λ i i_ge i_in.
              let less = below_later n columns j k rise j_lt k_in in
              let along = rises_along 1 items p i (columns_rise 1 n items (row_rises r d items lt is same)) i_ge i_in in
              omega arith),
        ))
