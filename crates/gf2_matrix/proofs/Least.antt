-- The columns of a row rise with its variables.
use Rattle.std.proofs.Common.{◌≡◌, ℕ, ◌+◌, ◌-◌, ◌<◌, zero, suc, Bool, true, false, List, [], ◌∷◌, length, get_or, Some, None, refl, sym, ap, ◌∙◌, arith, inl, inr, true≢false}
use Rattle.std.proofs.lemmas.Bool.{cases_lt}
use Rattle.cx_base.specs.Literals.{Literal}
use Rattle.gf2_rows.specs.Bits.{bit_of}
use Rattle.parity_engine.specs.Written.{AreRising}
use Rattle.parity_engine.proofs.Rising.{column-low}
use Rattle.gf2_matrix.specs.declared.packed.PackedRow.{PackedRow}
use Rattle.gf2_matrix.specs.Content.{Content, row_at, has, IsOfGiven, IsNextOutside, IsLeastOf}
use Rattle.gf2_matrix.specs.Packed.{Window, window_at, content, IsMatrix}
use Rattle.gf2_matrix.proofs.Rows.{pivot_at}

pub rising_order : (least greatest : ℕ) (ns : List ℕ) (i j : ℕ) → AreRising least greatest ns → i < j → j < length ns → get_or ns i 0 < get_or ns j 0
rising_order least greatest [] i j rise lt j_in = absurd (omega arith)
rising_order least greatest (n ∷ ns) i zero rise lt j_in = absurd (omega arith)
rising_order least greatest (n ∷ ns) zero (suc j) rise lt j_in = let h = column-low (n + 1) greatest ns j rise.2 (omega arith) in omega arith
rising_order least greatest (n ∷ ns) (suc i) (suc j) rise lt j_in = rising_order (n + 1) greatest ns i j rise.2 (omega arith) (omega arith)

-- of two columns of a row the first is the lesser variable's
abbrev pub RowRises : Content → ℕ → Type 0
RowRises c r = (j k : ℕ) → j < k → k < length c.columns → has (row_at c.rows r) (get_or c.columns j 0 - 1) ≡ true
    → has (row_at c.rows r) (get_or c.columns k 0 - 1) ≡ true → get_or c.columns j 0 < get_or c.columns k 0

module _ (vars : ℕ) (given : List (List Literal)) (columns places : List ℕ) (windows : List Window) (rows spares : List PackedRow) (no_columns : List ℕ)
    (matrix : IsMatrix vars given columns places windows rows spares no_columns) (r : ℕ) (d : PackedRow) (row_in : r < length rows) where
  pub row_rises : RowRises (content vars given columns windows rows) r
  row_rises j k lt k_in has_j has_k =
      let p : ℕ = (get_or rows r d).part in
      let p_in = matrix.placed r d row_in in
      let w : Window = window_at windows p in
      let at_j = pivot_at vars given columns places windows rows spares no_columns r d matrix row_in j (omega arith) has_j in
      let at_k = pivot_at vars given columns places windows rows spares no_columns r d matrix row_in k k_in has_k in
      let ej = at_j.2 in let ek = at_k.2 in
      let read_j : get_or columns j 0 ≡ get_or w.columns at_j.0 0 = ap (λ i. get_or columns i 0) ej ∙ matrix.windows_are.read p at_j.0 p_in at_j.1 in
      let read_k : get_or columns k 0 ≡ get_or w.columns at_k.0 0 = ap (λ i. get_or columns i 0) ek ∙ matrix.windows_are.read p at_k.0 p_in at_k.1 in
      let order = rising_order 1 vars w.columns at_j.0 at_k.0 (matrix.windows_are.rise p p_in) (omega arith) at_k.1 in
      omega arith

-- a row, where there is one
pub a_row : (rows : List PackedRow) (r : ℕ) → r < length rows → PackedRow
a_row [] r lt = absurd (omega arith)
a_row (d ∷ rows) r lt = d

module _ (c : Content) (mask : List ℕ) (r : ℕ) (of_given : IsOfGiven c) (lt : r < length c.rows) (none : (k : ℕ) → bit_of mask k ≡ false) (rise : RowRises c r) where
  at_column : (y : ℕ) → has (row_at c.rows r) y ≡ true → (k : ℕ) × (k < length c.columns) × (get_or c.columns k 0 ≡ y + 1) × (has (row_at c.rows r) (get_or c.columns k 0 - 1) ≡ true)
  at_column y on =
      let col = of_given.in_columns r lt y on in
      let e = col.2 in
      let back : get_or c.columns col.0 0 - 1 ≡ y = omega arith in
      (col.0, col.1, col.2, ap (has (row_at c.rows r)) back ∙ on)

  pub least_none : IsNextOutside c mask r 0 None → (x : ℕ) → has (row_at c.rows r) x ≡ false
  least_none empty x = go (has (row_at c.rows r) x) refl
    where
      go : (b : Bool) → has (row_at c.rows r) x ≡ b → b ≡ false
      go false e = refl
      go true e =
          let at = at_column x e in
          absurd (true≢false (sym at.3 ∙ empty at.0 (omega arith) at.1 (none at.0)))

  pub least_found : (k : ℕ) → IsNextOutside c mask r 0 (Some k) → (k < length c.columns) × IsLeastOf c r (get_or c.columns k 0 - 1)
  least_found k is = (is.1.0, (is.1.2, λ y small. go y small (has (row_at c.rows r) y) refl))
    where
      go : (y : ℕ) → y < get_or c.columns k 0 - 1 → (b : Bool) → has (row_at c.rows r) y ≡ b → b ≡ false
      go y small false e = refl
      go y small true e =
          let at = at_column y e in
          let e' = at.2 in
          elim (cases_lt at.0 k) [
            | inl before ↦ absurd (true≢false (sym at.3 ∙ is.2 at.0 (omega arith) before (none at.0)))
            | inr behind ↦
                elim (cases_lt k at.0) [
                  | inl after ↦ absurd (let h = rise k at.0 after at.1 is.1.2 at.3 in omega arith)
                  | inr same ↦ let q : at.0 ≡ k = omega arith in absurd (let h : get_or c.columns at.0 0 ≡ get_or c.columns k 0 = ap (λ i. get_or c.columns i 0) q in omega arith)
                ]
          ]
