-- A walk over the columns of a row that stand outside a mask, all of which other rows have.
use Rattle.std.proofs.Common.{◌≡◌, ℕ, ◌+◌, ◌<◌, ◌≤◌, List, Some, None, sym, ◌∙◌, subst, arith, inl, inr, true≢false}
use Rattle.std.proofs.lemmas.Bool.{cases_lt}
use Rattle.gf2_matrix.specs.Content.{Content, IsNextOutside, IsOutside, IsShared}

module _ (c : Content) (mask : List ℕ) (r from next : ℕ) (shared : (k : ℕ) → from ≤ k → k < next → IsOutside c mask r k → IsShared c r k) where
  pub shared_before : (column : ℕ) → IsNextOutside c mask r next (Some column) → (k : ℕ) → from ≤ k → k < column → IsOutside c mask r k → IsShared c r k
  shared_before column is k ge lt out =
      elim (cases_lt k next) [
        | inl before ↦ shared k ge before out
        | inr behind ↦ absurd (true≢false (sym out.2 ∙ is.2 k behind lt out.1))
      ]

  pub shared_more : (column : ℕ) → IsNextOutside c mask r next (Some column) → IsShared c r column → (k : ℕ) → from ≤ k → k < column + 1 → IsOutside c mask r k → IsShared c r k
  shared_more column is here k ge lt out =
      elim (cases_lt k column) [
        | inl before ↦ shared_before column is k ge before out
        | inr behind ↦ let same : column ≡ k = omega arith in subst (IsShared c r) same here
      ]

  pub shared_all : IsNextOutside c mask r next None → (k : ℕ) → from ≤ k → IsOutside c mask r k → IsShared c r k
  shared_all none k ge out =
      elim (cases_lt k next) [
        | inl before ↦ shared k ge before out
        | inr behind ↦ absurd (true≢false (sym out.2 ∙ none k behind out.0 out.1))
      ]
