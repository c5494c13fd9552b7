-- The variables that rows have, as they are marked and listed.
use Rattle.std.proofs.Common.{◌≡◌, ◌≢◌, ℕ, ◌+◌, ◌-◌, ◌<◌, ◌≤◌, zero, suc, Bool, true, false, List, [], ◌∷◌, ◌++◌, length, get_or, refl, sym, ap, ◌∙◌, subst, arith, inl, inr, true≢false}
use Rattle.std.proofs.lemmas.List.{get_or_push}
use Rattle.std.proofs.lemmas.Bool.{cases_eq}
use Rattle.parity_engine.specs.Written.{AreRising}
use Rattle.parity_engine.proofs.Rising.{column-low, column-high}
use Rattle.gf2_lists.specs.declared.row.ListedRow.{ListedRow}
use Rattle.gf2_lists.specs.Listed.{vars_at, AreListed}
use Rattle.gf2_lists.specs.Occurring.{HasMarks, AreMarked, HaveColumns}
use Rattle.gf2_lists.proofs.RowLaws.{read_vars}

rise_push : (least most : ℕ) (ns : List ℕ) → AreRising least most ns → least ≤ most + 1 → AreRising least (most + 1) (ns ++ (most + 1) ∷ [])
rise_push least most [] rise le = (le, omega arith, tt)
rise_push least most (n ∷ ns) rise le = let high = rise.1 in (rise.0, omega arith, rise_push (n + 1) most ns rise.2 (omega arith))

rise_on : (least most : ℕ) (ns : List ℕ) → AreRising least most ns → AreRising least (most + 1) ns
rise_on least most [] rise = tt
rise_on least most (n ∷ ns) rise = let high = rise.1 in (rise.0, omega arith, rise_on (n + 1) most ns rise.2)

read_front : (xs : List ℕ) (y i : ℕ) → i < length xs → get_or (xs ++ y ∷ []) i 0 ≡ get_or xs i 0
read_front [] y i lt = absurd (omega arith)
read_front (x ∷ xs) y zero lt = refl
read_front (x ∷ xs) y (suc i) lt = read_front xs y i (omega arith)

length_push : (xs : List ℕ) (y : ℕ) → length (xs ++ y ∷ []) ≡ length xs + 1
length_push [] y = refl
length_push (x ∷ xs) y = let h = length_push xs y in omega arith

pub marked_none : (marks : List Bool) → AreMarked marks [] 0
marked_none marks = record { rising = tt; all = λ x lt on. absurd (omega arith) }

pub marked_passed : (marks : List Bool) (columns : List ℕ) (n : ℕ) → AreMarked marks columns n → get_or marks n false ≡ false → AreMarked marks columns (n + 1)
marked_passed marks columns n far off = record {
  rising = rise_on 1 n columns far.rising;
  all = λ x lt on.
      elim (cases_eq x n) [
        | inl same ↦ absurd (true≢false (sym on ∙ ap (λ (i : ℕ). get_or marks i false) same ∙ off))
        | inr other ↦ far.all x (omega arith) on
      ];
}

pub marked_more : (marks : List Bool) (columns : List ℕ) (n : ℕ) → AreMarked marks columns n → AreMarked marks (columns ++ (n + 1) ∷ []) (n + 1)
marked_more marks columns n far =
    let long = length_push columns (n + 1) in
    record {
      rising = rise_push 1 n columns far.rising (omega arith);
      all = λ x lt on.
          elim (cases_eq x n) [
            | inl same ↦ (length columns, omega arith, get_or_push columns (n + 1) 0 (length columns) refl ∙ ap (λ (y : ℕ). y + 1) (sym same))
            | inr other ↦ let h = far.all x (omega arith) on in let lt' = h.1 in (h.0, omega arith, read_front columns (n + 1) h.0 h.1 ∙ h.2)
          ];
    }

pub columns_all : (n : ℕ) (rows : List ListedRow) (marks slice : List Bool) (columns : List ℕ) → AreListed n rows → HasMarks n rows marks (length rows) → slice ≡ marks
    → AreMarked slice columns (length slice) → HaveColumns rows columns
columns_all n rows marks slice columns listed has same are = λ r i r_in lt.
    let v : ℕ = get_or (vars_at rows r) i 0 in
    let low = column-low 1 n (vars_at rows r) i (listed r r_in) lt in
    let high = column-high 1 n (vars_at rows r) i (listed r r_in) lt in
    let size : length slice ≡ n = ap length same ∙ has.long in
    let back : v - 1 + 1 ≡ v = omega arith in
    let h = are.all (v - 1) (omega arith) (ap (λ (m : List Bool). get_or m (v - 1) false) same ∙ has.marked r i r_in lt) in
    (h.0, h.1, h.2 ∙ back)

pub columns_rise : (n : ℕ) (rows : List ListedRow) (marks slice : List Bool) (columns : List ℕ) → HasMarks n rows marks (length rows) → slice ≡ marks → AreMarked slice columns (length slice) → AreRising 1 n columns
columns_rise n rows marks slice columns has same are = subst (λ (m : ℕ). AreRising 1 m columns) (ap length same ∙ has.long) are.rising

pub marks_more : (n i : ℕ) (rows : List ListedRow) (old new : List Bool) (r : ListedRow) (vars : List ℕ) → HasMarks n rows old i → i < length rows → r ≡ get_or rows i r → vars ≡ r.vars.items
    → length new ≡ length old → ((x : ℕ) → get_or old x false ≡ true → get_or new x false ≡ true) → ((j : ℕ) → j < length vars → get_or new (get_or vars j 0 - 1) false ≡ true) → HasMarks n rows new (i + 1)
marks_more n i rows old new r vars far lt is vars_are long stay marked =
    let own : vars_at rows i ≡ vars = read_vars rows i r lt is ∙ sym vars_are in
    record {
      long = long ∙ far.long;
      marked = λ s j s_in j_in.
          elim (cases_eq s i) [
            | inl same ↦
                let here : vars_at rows s ≡ vars = ap (vars_at rows) same ∙ own in
                let size : length (vars_at rows s) ≡ length vars = ap length here in
                ap (λ (l : List ℕ). get_or new (get_or l j 0 - 1) false) here ∙ marked j (omega arith)
            | inr other ↦ stay (get_or (vars_at rows s) j 0 - 1) (far.marked s j (omega arith) j_in)
          ];
    }
