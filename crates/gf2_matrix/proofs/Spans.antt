-- Rows of words that are zero but for some in a row.
use Rattle.std.proofs.Common.{◌≡◌, ℕ, ◌-◌, ◌≤◌, List, get_or, ap, ◌∙◌, arith, inl, inr}
use Rattle.std.proofs.lemmas.Bool.{cases_eq}

-- one more word that is zero, before those that are
pub zero_from : (words : List ℕ) (end : ℕ) → get_or words (end - 1) 0 ≡ 0 → ((i : ℕ) → end ≤ i → get_or words i 0 ≡ 0) → (i : ℕ) → end - 1 ≤ i → get_or words i 0 ≡ 0
zero_from words end here after i ge =
    elim (cases_eq i (end - 1)) [
      | inl same ↦ ap (λ k. get_or words k 0) same ∙ here
      | inr ne ↦ after i (omega arith)
    ]
