-- Rows replaced by rows with others added, and their numbers noted.
use Rattle.std.proofs.Common.{◌≡◌, ◌≢◌, ℕ, ◌+◌, ◌-◌, ◌<◌, ◌≤◌, List, [], ◌∷◌, length, get_or, set, refl, sym, ap, ◌∙◌, subst, arith, inl, inr}
use Rattle.std.proofs.lemmas.List.{get_or-set_same, get_or-set_other, length-set}
use Rattle.std.proofs.lemmas.Bool.{cases_eq}
use Rattle.parity_engine.specs.Written.{AreRising}
use Rattle.gf2_lists.specs.declared.row.ListedRow.{ListedRow}
use Rattle.gf2_lists.specs.Sums.{excess}
use Rattle.gf2_lists.specs.Listed.{vars_at, right_at, AreListed}
use Rattle.gf2_lists.specs.Reducing.{IsFirst, OwnFirsts, IsReduced}
use Rattle.gf2_lists.specs.Eliminating.{SaySame, AreOwners}
use Rattle.gf2_lists.proofs.RowLaws.{vars_same, vars_other, right_same, right_other}
use Rattle.gf2_lists.proofs.RowLaws as reads

pub same_none : (n : ℕ) (rows : List ListedRow) → AreListed n rows → SaySame n rows rows
same_none n rows listed = record { count = refl; listed = listed; sound = λ v met. met; complete = λ v met. met }

-- ---- what the rows say stays
pub same_set : (n : ℕ) (before rows : List ListedRow) (owners : List ℕ) (row : ℕ) (new : ListedRow) → length owners ≡ n → SaySame n before rows → row < length rows
    → IsReduced owners rows row new.vars.items new.right → SaySame n before (set rows row new)
same_set n before rows owners row new long far lt red =
    let size = reads.length-set rows row new in
    record {
      count = size ∙ far.count;
      listed = λ i i_in.
          elim (cases_eq i row) [
            | inl same ↦ subst (λ (l : List ℕ). AreRising 1 n l) (sym (ap (vars_at (set rows row new)) same ∙ vars_same rows row new lt)) (subst (λ (m : ℕ). AreRising 1 m new.vars.items) long red.rises)
            | inr other ↦ subst (AreRising 1 n) (sym (vars_other rows row i new other)) (far.listed i (omega arith))
          ];
      sound = λ v met j j_in.
          let all = far.sound v met in
          elim (cases_eq j row) [
            | inl same ↦
                ap (λ (k : ℕ). excess (vars_at (set rows row new) k) (right_at (set rows row new) k) v) same
                ∙ (λ i. excess (vars_same rows row new lt i) (right_same rows row new lt i) v)
                ∙ red.same v (λ k k_in ne. all k k_in) ∙ all row lt
            | inr other ↦ (λ i. excess (vars_other rows row j new other i) (right_other rows row j new other i) v) ∙ all j (omega arith)
          ];
      complete = λ v met.
          far.complete v (λ j j_in.
          elim (cases_eq j row) [
            | inl same ↦
                ap (λ (k : ℕ). excess (vars_at rows k) (right_at rows k) v) same
                ∙ sym (red.same v (λ k k_in ne. (λ i. excess (sym (vars_other rows row k new ne) i) (sym (right_other rows row k new ne) i) v) ∙ met k (omega arith)))
                ∙ (λ i. excess (sym (vars_same rows row new lt) i) (sym (right_same rows row new lt) i) v)
                ∙ met row (omega arith)
            | inr other ↦ (λ i. excess (sym (vars_other rows row j new other) i) (sym (right_other rows row j new other) i) v) ∙ met j (omega arith)
          ]);
    }

pub own_firsts : (n k : ℕ) (rows : List ListedRow) (owners : List ℕ) → AreOwners n rows owners k → OwnFirsts owners rows
own_firsts n k rows owners far x r lt is =
    let long = far.long in
    let h = far.owned x r (omega arith) is in (h.1, h.2)

pub owners_none : (rows : List ListedRow) (owners : List ℕ) → ((x : ℕ) → x < length owners → get_or owners x 0 ≡ 0) → AreOwners (length owners) rows owners 0
owners_none rows owners none = record {
  long = refl;
  owned = λ x r lt is. absurd (let h = none x lt in omega arith);
  found = λ x r high low first. absurd (omega arith);
}

-- ---- the next row, which has no variable
pub owners_passed : (n k row : ℕ) (rows : List ListedRow) (owners : List ℕ) (new : ListedRow) → length rows ≡ row + 1 + k → AreOwners n rows owners k → new.vars.items ≡ []
    → AreOwners n (set rows row new) owners (k + 1)
owners_passed n k row rows owners new size far none =
    let longer = reads.length-set rows row new in
    let at_row : vars_at (set rows row new) row ≡ [] = vars_same rows row new (omega arith) ∙ none in
    record {
      long = far.long;
      owned = λ x r lt is.
          let h = far.owned x r lt is in
          let high = h.0 in
          let low = h.1 in
          (omega arith, omega arith, ap (λ (l : List ℕ). get_or l 0 0) (vars_other rows row r new (λ e. omega arith)) ∙ h.2);
      found = λ x r high low first.
          elim (cases_eq r row) [
            | inl same ↦ absurd (let none_first : 0 ≡ x + 1 = sym (ap (λ (l : List ℕ). get_or l 0 0) (ap (vars_at (set rows row new)) same ∙ at_row)) ∙ first in omega arith)
            | inr other ↦ far.found x r (omega arith) (omega arith) (ap (λ (l : List ℕ). get_or l 0 0) (sym (vars_other rows row r new other)) ∙ first)
          ];
    }

-- ---- the next row, which has a first variable
pub first_unowned : (n k row at : ℕ) (rows : List ListedRow) (owners : List ℕ) (new : ListedRow) → length rows ≡ row + 1 + k → AreOwners n rows owners k → at < n
    → IsReduced owners rows row new.vars.items new.right → 1 ≤ length new.vars.items → get_or new.vars.items 0 0 ≡ at + 1 → get_or owners at 0 ≡ 0
first_unowned n k row at rows owners new size far at_in red some first =
    let back : get_or new.vars.items 0 0 - 1 ≡ at = omega arith in
    elim (red.clear 0 some) [
      | inl none ↦ ap (λ (j : ℕ). get_or owners j 0) (sym back) ∙ none
      | inr own ↦
          let of_row = far.owned at row at_in (ap (λ (j : ℕ). get_or owners j 0) (sym back) ∙ own) in
          absurd (let h = of_row.0 in omega arith)
    ]

pub owners_more : (n k row at : ℕ) (rows : List ListedRow) (owners : List ℕ) (new : ListedRow) → length rows ≡ row + 1 + k → AreOwners n rows owners k → at < n → get_or owners at 0 ≡ 0
    → get_or new.vars.items 0 0 ≡ at + 1 → AreOwners n (set rows row new) (set owners at (row + 1)) (k + 1)
owners_more n k row at rows owners new size far at_in none first =
    let longer = reads.length-set rows row new in
    let long = far.long in
    let at_row : IsFirst (set rows row new) row at = ap (λ (l : List ℕ). get_or l 0 0) (vars_same rows row new (omega arith)) ∙ first in
    record {
      long = length-set owners at (row + 1) ∙ far.long;
      owned = λ x r lt is.
          elim (cases_eq x at) [
            | inl same ↦
                let here : row + 1 ≡ r + 1 = sym (ap (λ (i : ℕ). get_or (set owners at (row + 1)) i 0) same ∙ get_or-set_same owners at (row + 1) 0 (omega arith)) ∙ is in
                let r_is : row ≡ r = omega arith in
                (omega arith, omega arith, subst (λ (j : ℕ). IsFirst (set rows row new) j x) r_is (subst (IsFirst (set rows row new) row) (sym same) at_row))
            | inr other ↦
                let h = far.owned x r lt (sym (get_or-set_other owners at x (row + 1) 0 other) ∙ is) in
                let high = h.0 in
                let low = h.1 in
                (omega arith, omega arith, ap (λ (l : List ℕ). get_or l 0 0) (vars_other rows row r new (λ e. omega arith)) ∙ h.2)
          ];
      found = λ x r high low is_first.
          elim (cases_eq r row) [
            | inl same ↦
                let there : at + 1 ≡ x + 1 = sym at_row ∙ ap (λ (j : ℕ). get_or (vars_at (set rows row new) j) 0 0) (sym same) ∙ is_first in
                let x_is : x ≡ at = omega arith in
                ap (λ (i : ℕ). get_or (set owners at (row + 1)) i 0) x_is ∙ get_or-set_same owners at (row + 1) 0 (omega arith) ∙ ap (λ (j : ℕ). j + 1) (sym same)
            | inr other ↦
                let old = far.found x r (omega arith) (omega arith) (ap (λ (l : List ℕ). get_or l 0 0) (sym (vars_other rows row r new other)) ∙ is_first) in
                let apart : x ≢ at = λ e. let zero : get_or owners x 0 ≡ 0 = ap (λ (i : ℕ). get_or owners i 0) e ∙ none in omega arith in
                get_or-set_other owners at x (row + 1) 0 apart ∙ old
          ];
    }

-- ---- a row entered
pub enter_step : (n k row : ℕ) (before rows : List ListedRow) (owners noted vars : List ℕ) (new : ListedRow) → length rows ≡ row + 1 + k → SaySame n before rows → AreOwners n rows owners k
    → IsReduced owners rows row new.vars.items new.right → vars ≡ new.vars.items → (length vars ≡ 0 → noted ≡ owners) → (0 < length vars → noted ≡ set owners (get_or vars 0 0 - 1) (row + 1))
    → SaySame n before (set rows row new) × AreOwners n (set rows row new) noted (k + 1)
enter_step n k row before rows owners noted vars new size same far red vars_are none some = (same_set n before rows owners row new far.long same (omega arith) red, go vars vars_are refl)
  where
    go : (l : List ℕ) → l ≡ new.vars.items → vars ≡ l → AreOwners n (set rows row new) noted (k + 1)
    go [] is e =
        subst (λ (o : List ℕ). AreOwners n (set rows row new) o (k + 1)) (sym (none (ap length e))) (owners_passed n k row rows owners new size far (sym is))
    go (y ∷ ys) is e =
        let rise : AreRising 1 (length owners) (y ∷ ys) = subst (AreRising 1 (length owners)) (sym is) red.rises in
        let low = rise.0 in
        let high = rise.1 in
        let long = far.long in
        let first : get_or new.vars.items 0 0 ≡ y - 1 + 1 = ap (λ (l : List ℕ). get_or l 0 0) (sym is) ∙ (let back : y ≡ y - 1 + 1 = omega arith in back) in
        let count : 1 ≤ length new.vars.items = let size_is : length new.vars.items ≡ length (y ∷ ys) = ap length (sym is) in omega arith in
        let free = first_unowned n k row (y - 1) rows owners new size far (omega arith) red count first in
        let at : noted ≡ set owners (y - 1) (row + 1) =
        some (let size_is : length vars ≡ length (y ∷ ys) = ap length e in omega arith) ∙ ap (λ (l : List ℕ). set owners (get_or l 0 0 - 1) (row + 1)) e in
        subst (λ (o : List ℕ). AreOwners n (set rows row new) o (k + 1)) (sym at) (owners_more n k row (y - 1) rows owners new size far (omega arith) free first)
