-- Rows without the first variables of others, from the greatest first on.
use Rattle.std.proofs.Common.{◌≡◌, ◌≢◌, ℕ, ◌+◌, ◌-◌, ◌<◌, List, length, get_or, set, sym, ap, ◌∙◌, subst, arith, inl, inr}
use Rattle.std.proofs.lemmas.Bool.{cases_eq}
use Rattle.parity_engine.proofs.Rising.{column-low, column-high}
use Rattle.gf2_lists.specs.declared.row.ListedRow.{ListedRow}
use Rattle.gf2_lists.specs.Listed.{vars_at, HasOwnFirst}
use Rattle.gf2_lists.specs.Reducing.{IsClear, IsReduced}
use Rattle.gf2_lists.specs.Eliminating.{SaySame, AreOwners, AreClear, AreEliminated}
use Rattle.gf2_lists.proofs.RowLaws.{vars_same, vars_other, length-set}
use Rattle.gf2_lists.proofs.Entering.{same_set}

-- the last k variables are done
pub record Clearing (n : ℕ) (before rows : List ListedRow) (owners : List ℕ) (k : ℕ) : Type 0 where
  pub same : SaySame n before rows
  pub owners_are : AreOwners n rows owners (length rows)
  pub clear : AreClear n rows owners k

pub clearing_none : (n : ℕ) (rows : List ListedRow) (owners : List ℕ) → SaySame n rows rows → AreOwners n rows owners (length rows) → Clearing n rows rows owners 0
clearing_none n rows owners same are = record { same = same; owners_are = are; clear = λ x r lt past is. absurd (omega arith) }

pub clearing_passed : (n : ℕ) (before rows : List ListedRow) (owners : List ℕ) (k x : ℕ) → n ≡ x + 1 + k → Clearing n before rows owners k → get_or owners x 0 ≡ 0 → Clearing n before rows owners (k + 1)
clearing_passed n before rows owners k x size far none = record {
  same = far.same;
  owners_are = far.owners_are;
  clear = λ y r lt past is.
      elim (cases_eq y x) [
        | inl same ↦ absurd (let zero : get_or owners y 0 ≡ 0 = ap (λ (i : ℕ). get_or owners i 0) same ∙ none in omega arith)
        | inr other ↦ far.clear y r lt (omega arith) is
      ];
}

pub clearing_more : (n : ℕ) (before rows : List ListedRow) (owners : List ℕ) (k x r : ℕ) (new : ListedRow) → n ≡ x + 1 + k → Clearing n before rows owners k → get_or owners x 0 ≡ r + 1
    → IsReduced owners rows r new.vars.items new.right → Clearing n before (set rows r new) owners (k + 1)
clearing_more n before rows owners k x r new size far owner red =
    let long = far.owners_are.long in
    let size' = length-set rows r new in
    let of_r = far.owners_are.owned x r (omega arith) owner in
    let r_in : r < length rows = of_r.1 in
    let here : vars_at (set rows r new) r ≡ new.vars.items = vars_same rows r new r_in in
    let first_x : get_or new.vars.items 0 0 ≡ x + 1 = red.own x (omega arith) owner in
    record {
      same = same_set n before rows owners r new long far.same r_in red;
      owners_are = record {
        long = far.owners_are.long;
        owned = λ y s lt is.
            let h = far.owners_are.owned y s lt is in
            let low = h.1 in
            elim (cases_eq s r) [
              | inl same ↦
                  let is_r : get_or owners y 0 ≡ r + 1 = is ∙ ap (λ (j : ℕ). j + 1) same in
                  (omega arith, omega arith, ap (λ (j : ℕ). get_or (vars_at (set rows r new) j) 0 0) same ∙ ap (λ (l : List ℕ). get_or l 0 0) here ∙ red.own y (omega arith) is_r)
              | inr other ↦ (omega arith, omega arith, ap (λ (l : List ℕ). get_or l 0 0) (vars_other rows r s new other) ∙ h.2)
            ];
        found = λ y s high low first.
            elim (cases_eq s r) [
              | inl same ↦
                  let there : x + 1 ≡ y + 1 = sym (ap (λ (l : List ℕ). get_or l 0 0) here ∙ first_x) ∙ ap (λ (j : ℕ). get_or (vars_at (set rows r new) j) 0 0) (sym same) ∙ first in
                  let y_is : y ≡ x = omega arith in
                  ap (λ (i : ℕ). get_or owners i 0) y_is ∙ owner ∙ ap (λ (j : ℕ). j + 1) (sym same)
              | inr other ↦ far.owners_are.found y s (omega arith) (omega arith) (ap (λ (l : List ℕ). get_or l 0 0) (sym (vars_other rows r s new other)) ∙ first)
            ];
      };
      clear = λ y s lt past is.
          elim (cases_eq s r) [
            | inl same ↦
                subst (λ (j : ℕ). IsClear owners (j + 1) (vars_at (set rows r new) j)) (sym same) (subst (IsClear owners (r + 1)) (sym here) red.clear)
            | inr other ↦
                let apart : y ≢ x = λ e. other (let as_x : get_or owners y 0 ≡ r + 1 = ap (λ (i : ℕ). get_or owners i 0) e ∙ owner in omega arith) in
                subst (IsClear owners (s + 1)) (sym (vars_other rows r s new other)) (far.clear y s lt (omega arith) is)
          ];
    }

pub cleared_all : (n : ℕ) (before rows : List ListedRow) (owners : List ℕ) → Clearing n before rows owners n → AreEliminated n before rows
cleared_all n before rows owners far = record { same = far.same; own = own }
  where
    own : (r : ℕ) → r < length rows → HasOwnFirst rows r
    own r r_in j i j_in ne lt same =
        let p : ℕ = get_or (vars_at rows j) i 0 in
        let rise = far.same.listed j j_in in
        let p_low = column-low 1 n (vars_at rows j) i rise lt in
        let p_high = column-high 1 n (vars_at rows j) i rise lt in
        let some : 0 < length (vars_at rows j) = omega arith in
        let q : ℕ = get_or (vars_at rows j) 0 0 in
        let q_low = column-low 1 n (vars_at rows j) 0 rise some in
        let q_high = column-high 1 n (vars_at rows j) 0 rise some in
        let back : p ≡ p - 1 + 1 = omega arith in
        let back_q : q ≡ q - 1 + 1 = omega arith in
        let of_r : get_or owners (p - 1) 0 ≡ r + 1 = far.owners_are.found (p - 1) r (omega arith) r_in (sym same ∙ back) in
        let of_j : get_or owners (q - 1) 0 ≡ j + 1 = far.owners_are.found (q - 1) j (omega arith) j_in back_q in
        elim (far.clear (q - 1) j (omega arith) (omega arith) of_j i lt) [ inl none ↦ omega arith | inr own_j ↦ ne (omega arith) ]

-- elimination over what elimination left
pub same_all : (n : ℕ) (before middle rows : List ListedRow) → SaySame n before middle → AreEliminated n middle rows → AreEliminated n before rows
same_all n before middle rows first second = record {
  same = record {
    count = second.same.count ∙ first.count;
    listed = second.same.listed;
    sound = λ v met. second.same.sound v (first.sound v met);
    complete = λ v met. first.complete v (second.same.complete v met);
  };
  own = second.own;
}
