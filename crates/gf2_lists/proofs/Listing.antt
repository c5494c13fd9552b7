-- What lists of variables say as the rows of a content.
use Rattle.std.proofs.Common.{◌≡◌, ◌≢◌, ℕ, ◌+◌, ◌-◌, ◌<◌, ◌≤◌, ◌^◌, Bool, false, ◌&&◌, nat_eq, List, [], ◌∷◌, map, length, get_or, refl, sym, ap, ◌∙◌, subst, arith, inl, inr}
use Rattle.std.specs.List.{list_any, AllByRecursion}
use Rattle.std.specs.Simd.Lanes.{zip2}
use Rattle.std.proofs.lemmas.List.{length-map}
use Rattle.std.proofs.lemmas.Bool.{cases_lt}
use Rattle.cx_base.specs.Literals.{Literal, differ}
use Rattle.cx_base.specs.Parity.{odd_sum}
use Rattle.cx_base.specs.Problem.{AreWithin}
use Rattle.cx_base.proofs.Differences.{differ_itself, same-differ}
use Rattle.parity_engine.specs.Written.{AreRising}
use Rattle.parity_engine.proofs.Rising.{columns_rise, column-low, column-high, rises_along}
use Rattle.gf2_matrix.specs.Content.{row_at, has, equation, IsInColumns, IsLeastOf, IsEchelonRow}
use Rattle.gf2_matrix.specs.Totals.{MeetsEquation}
use Rattle.gf2_lists.specs.declared.row.ListedRow.{ListedRow}
use Rattle.gf2_lists.specs.Sums.{sum_over}
use Rattle.gf2_lists.specs.Listed.{vars_at, right_at, AreListed, IsMet, HasOwnFirst}
use Rattle.gf2_lists.specs.Terms.{terms_from, listed_row, listed}
use Rattle.gf2_lists.specs.Occurring.{HaveColumns}
use Rattle.gf2_lists.specs.Echelon.{AreEchelonOf, IsEchelonOf}
use Rattle.gf2_lists.proofs.Rises.{any_none}
use Rattle.gf2_lists.proofs.TermLaws.{length-terms, total-terms, has_member, has_past, place_of_bit, bit_of_place, bit_below, terms_row, right_row}

pub excess_met : (sum right : Bool) → sum ≡ right → differ sum right ≡ false
excess_met sum right e = ap (λ b. differ b right) e ∙ differ_itself right

module _ (n : ℕ) (given : List (List Literal)) (columns : List ℕ) (rows : List ListedRow) (are_listed : AreListed n rows) where
  size : length (map (listed_row n) rows) ≡ length rows
  size = length-map rows (listed_row n)

  meets_row : (v : List Bool) → length v ≡ n → (i : ℕ) → i < length rows → IsMet rows i v → MeetsEquation v (equation (row_at (map (listed_row n) rows) i))
  meets_row v long i lt met =
      ap (λ ts. odd_sum (zip2 ◌&&◌ ts v)) (terms_row n rows i lt) ∙ total-terms n (vars_at rows i) v (are_listed i lt) long
      ∙ same-differ (sum_over (vars_at rows i) v) (right_at rows i) met ∙ sym (right_row n rows i lt)

  met_row : (v : List Bool) → length v ≡ n → (i : ℕ) → i < length rows → MeetsEquation v (equation (row_at (map (listed_row n) rows) i)) → IsMet rows i v
  met_row v long i lt meets =
      excess_met (sum_over (vars_at rows i) v) (right_at rows i)
      (sym (ap (λ ts. odd_sum (zip2 ◌&&◌ ts v)) (terms_row n rows i lt) ∙ total-terms n (vars_at rows i) v (are_listed i lt) long) ∙ meets ∙ right_row n rows i lt)

  has_row : (r x : ℕ) → r < length rows → has (row_at (map (listed_row n) rows) r) x ≡ get_or (terms_from 1 n (vars_at rows r)) x false
  has_row r x lt = ap (λ ts. get_or ts x false) (terms_row n rows r lt)

  none_in : (r : ℕ) → r < length rows → vars_at rows r ≡ [] → (x : ℕ) → has (row_at (map (listed_row n) rows) r) x ≡ false
  none_in r lt empty x =
      has_row r x lt ∙ ap (λ (l : List ℕ). get_or (terms_from 1 n l) x false) empty
      ∙ elim (cases_lt x n) [ inl small ↦ has_member n [] x tt small | inr large ↦ has_past n [] x large ]

  least_in : (r y : ℕ) (ys : List ℕ) → r < length rows → vars_at rows r ≡ y ∷ ys → IsLeastOf (listed n given columns rows) r (y - 1)
  least_in r y ys lt is =
      let rise : AreRising 1 n (y ∷ ys) = subst (AreRising 1 n) is (are_listed r lt) in
      let low = rise.0 in
      let high = rise.1 in (
        has_row r (y - 1) lt ∙ ap (λ (l : List ℕ). get_or (terms_from 1 n l) (y - 1) false) is ∙ bit_of_place n (y ∷ ys) 0 (y - 1) rise (omega arith) (omega arith) (omega arith),
        λ x below. has_row r x lt ∙ ap (λ (l : List ℕ). get_or (terms_from 1 n l) x false) is ∙ bit_below n y ys x rise (omega arith),
      )

  alone_in : (r y : ℕ) (ys : List ℕ) → r < length rows → vars_at rows r ≡ y ∷ ys → HasOwnFirst rows r → (j : ℕ) → j < length rows → j ≢ r
      → has (row_at (map (listed_row n) rows) j) (y - 1) ≡ false
  alone_in r y ys lt is own j j_in ne =
      let rise : AreRising 1 n (y ∷ ys) = subst (AreRising 1 n) is (are_listed r lt) in
      let low = rise.0 in
      let high = rise.1 in
      let back : y - 1 + 1 ≡ y = omega arith in
      has_row j (y - 1) j_in ∙ has_member n (vars_at rows j) (y - 1) (columns_rise 1 n (vars_at rows j) (are_listed j j_in)) (omega arith)
      ∙ any_none (vars_at rows j) (y - 1 + 1) (λ i i_in same. own j i j_in ne i_in (same ∙ back ∙ ap (λ (l : List ℕ). get_or l 0 0) (sym is)))

  echelon_row : (r : ℕ) → r < length rows → HasOwnFirst rows r → IsEchelonRow (listed n given columns rows) r
  echelon_row r lt own = go (vars_at rows r) refl
    where
      go : (l : List ℕ) → vars_at rows r ≡ l → IsEchelonRow (listed n given columns rows) r
      go [] is = inl (none_in r lt is)
      go (y ∷ ys) is = inr (y - 1, least_in r y ys lt is, λ j j_in ne. alone_in r y ys lt is own j (let e = size in omega arith) ne)

  columns_in : HaveColumns rows columns → (r : ℕ) → r < length rows → IsInColumns columns (row_at (map (listed_row n) rows) r)
  columns_in have r lt x on =
      let at = place_of_bit n (vars_at rows r) x (columns_rise 1 n (vars_at rows r) (are_listed r lt)) (sym (has_row r x lt) ∙ on) in
      let column = have r at.0 lt at.1 in
      (column.0, column.1, column.2 ∙ at.2)

  pub listed_are : AllByRecursion (AreWithin n) given → HaveColumns rows columns → AreEchelonOf n given rows → IsEchelonOf n given (listed n given columns rows)
  listed_are within have are =
      let e = size in
      let few = are.few in
      record {
        vars_are = refl;
        given_are = refl;
        few = subst (λ (m : ℕ). m < 2 ^ 32) (sym size) are.few;
        say = record {
          within = within;
          in_columns = λ i lt. columns_in have i (omega arith);
          long = λ i lt. let i_in : i < length rows = omega arith in ap length (terms_row n rows i i_in) ∙ length-terms 1 n (vars_at rows i);
          sound = λ v long met i lt. meets_row v long i (omega arith) (are.sound v long met i (omega arith));
          complete = λ v long met. are.complete v long (λ j j_in. met_row v long j j_in (met j (omega arith)));
        };
        echelon = λ r lt. let r_in : r < length rows = omega arith in echelon_row r r_in (are.own r r_in);
      }

  -- ---- what is read of a row
  pub read_least : (r : ℕ) (items : List ℕ) → r < length rows → items ≡ vars_at rows r → items ≡ [] → (x : ℕ) → has (row_at (map (listed_row n) rows) r) x ≡ false
  read_least r items lt is empty = none_in r lt (sym is ∙ empty)

  pub read_first : (r : ℕ) (items : List ℕ) → r < length rows → items ≡ vars_at rows r → 0 < length items
      → (1 ≤ get_or items 0 0) × (get_or items 0 0 ≤ n) × IsLeastOf (listed n given columns rows) r (get_or items 0 0 - 1)
  read_first r [] lt is some = absurd (omega arith)
  read_first r (y ∷ ys) lt is some =
      let rise : AreRising 1 n (y ∷ ys) = subst (AreRising 1 n) (sym is) (are_listed r lt) in (rise.0, rise.1, least_in r y ys lt (sym is))

  pub read_has : (r v : ℕ) (items : List ℕ) → r < length rows → items ≡ vars_at rows r → 1 ≤ v → v ≤ n → list_any (λ y. nat_eq y v) items ≡ has (row_at (map (listed_row n) rows) r) (v - 1)
  read_has r v items lt is low high =
      let back : v ≡ v - 1 + 1 = omega arith in
      ap (λ (l : List ℕ). list_any (λ y. nat_eq y v) l) is ∙ ap (λ (w : ℕ). list_any (λ y. nat_eq y w) (vars_at rows r)) back
      ∙ sym (has_row r (v - 1) lt ∙ has_member n (vars_at rows r) (v - 1) (columns_rise 1 n (vars_at rows r) (are_listed r lt)) (omega arith))

  -- the columns from one on whose variables are above those before a place of the row
  pub lacks_below : (columns_rise' : AreRising 1 n columns) (r from place : ℕ) (items : List ℕ) → r < length rows → items ≡ vars_at rows r → from < length columns
      → ((i : ℕ) → i < place → get_or items i 0 < get_or columns from 0) → (j : ℕ) → from ≤ j → j < length columns
      → ((i : ℕ) → place ≤ i → i < length items → get_or columns j 0 < get_or items i 0) → has (row_at (map (listed_row n) rows) r) (get_or columns j 0 - 1) ≡ false
  lacks_below rise r from place items lt is from_in before j le j_in after =
      let low = column-low 1 n columns j rise j_in in
      let high = column-high 1 n columns j rise j_in in
      let along = rises_along 1 columns from j (columns_rise 1 n columns rise) le j_in in
      sym (read_has r (get_or columns j 0) items lt is low high)
      ∙ any_none items (get_or columns j 0) (λ i i_in e.
      elim (cases_lt i place) [ inl small ↦ let h = before i small in omega arith | inr large ↦ let h = after i large i_in in omega arith ])
