-- The columns that were assigned last.
use Rattle.std.proofs.Common.{◌≡◌, ◌∙◌, ℕ, ◌+◌, ◌<◌, ◌≤◌, true, false, List, length, Option, Some, None, refl, sym, ap, subst, arith, inl, inr, true≢false}
use Rattle.std.proofs.lemmas.Bool.{cases_lt, eq-eqb, eqb-true, ltb-false, ltb-true}
use Rattle.std.proofs.lemmas.Option.{same_Some}
use Rattle.parity_engine.specs.declared.state.Held.{Held}
use Rattle.gf2_matrix.specs.Content.{Content, has, row_at}
use Rattle.gauss_jordan.specs.Right.{column_at}
use Rattle.gauss_incremental.specs.Heights.{IsLast, IsOther, level_at}
use Rattle.gauss_incremental.specs.Waiting.{names_column}
use Rattle.gauss_incremental.specs.Watching.{is_later}

-- columns that the row lacks change nothing
pub last_further : (c : Content) (held : List (Option Held)) (r : ℕ) (basic : Option ℕ) (n k : ℕ) (best : Option ℕ) → IsLast c held r basic n best
    → ((j : ℕ) → n ≤ j → j < k → has (row_at c.rows r) (column_at c.columns j) ≡ false) → IsLast c held r basic k best
last_further c held r basic n k None last none = λ j lt other.
    elim (cases_lt j n) [
      | inl small ↦ last j small other
      | inr ge ↦ absurd (true≢false (sym other.1 ∙ none j ge lt))
    ]
last_further c held r basic n k (Some w) last none = (
  last.0,
  λ j lt other.
      elim (cases_lt j n) [
        | inl small ↦ last.1 j small other
        | inr ge ↦ absurd (true≢false (sym other.1 ∙ none j ge lt))
      ],
)

-- a column that is none of the others changes nothing
pub last_skip : (c : Content) (held : List (Option Held)) (r : ℕ) (basic : Option ℕ) (n : ℕ) (best : Option ℕ) → IsLast c held r basic n best → (IsOther c r basic n → ⊥) → IsLast c held r basic (n + 1) best
last_skip c held r basic n None last skip = λ j lt other.
    elim (cases_lt j n) [
      | inl small ↦ last j small other
      | inr ge ↦ let e : j ≡ n = omega arith in skip (subst (IsOther c r basic) e other)
    ]
last_skip c held r basic n (Some w) last skip = (
  last.0,
  λ j lt other.
      elim (cases_lt j n) [
        | inl small ↦ last.1 j small other
        | inr ge ↦ let e : j ≡ n = omega arith in absurd (skip (subst (IsOther c r basic) e other))
      ],
)

-- one that was assigned later is the best
pub last_next : (c : Content) (held : List (Option Held)) (r : ℕ) (basic : Option ℕ) (n : ℕ) (best : Option ℕ) → IsLast c held r basic n best → IsOther c r basic n → is_later c held n best ≡ true
    → IsLast c held r basic (n + 1) (Some n)
last_next c held r basic n None last here later = (
  here,
  λ j lt other.
      elim (cases_lt j n) [
        | inl small ↦ absurd (last j small other)
        | inr ge ↦ let e : j ≡ n = omega arith in subst (λ i. level_at c held i ≤ level_at c held n) (sym e) (omega arith)
      ],
)
last_next c held r basic n (Some w) last here later = (
  here,
  λ j lt other.
      let above : level_at c held w < level_at c held n = ltb-true (level_at c held w) (level_at c held n) later in
      elim (cases_lt j n) [
        | inl small ↦ let low = last.1 j small other in omega arith
        | inr ge ↦ let e : j ≡ n = omega arith in subst (λ i. level_at c held i ≤ level_at c held n) (sym e) (omega arith)
      ],
)

-- and one that was not leaves the best
pub last_kept : (c : Content) (held : List (Option Held)) (r : ℕ) (basic : Option ℕ) (n : ℕ) (best : Option ℕ) → IsLast c held r basic n best → is_later c held n best ≡ false → IsLast c held r basic (n + 1) best
last_kept c held r basic n None last later = absurd (true≢false later)
last_kept c held r basic n (Some w) last later = (
  last.0,
  λ j lt other.
      let low : level_at c held n ≤ level_at c held w = ltb-false (level_at c held w) (level_at c held n) later in
      elim (cases_lt j n) [
        | inl small ↦ last.1 j small other
        | inr ge ↦ let e : j ≡ n = omega arith in subst (λ i. level_at c held i ≤ level_at c held w) (sym e) low
      ],
)

pub named_is : (basic : Option ℕ) (k : ℕ) → names_column basic k ≡ true → basic ≡ Some k
named_is None k on = absurd (true≢false (sym on))
named_is (Some j) k on = ap Some (eqb-true j k on)

pub named_not : (basic : Option ℕ) (k : ℕ) → names_column basic k ≡ false → basic ≡ Some k → ⊥
named_not basic k off is = true≢false (sym (ap (λ p. names_column p k) is ∙ eq-eqb k k refl) ∙ off)

pub last_in : (c : Content) (held : List (Option Held)) (r : ℕ) (basic : Option ℕ) (n : ℕ) (best : Option ℕ) → IsLast c held r basic n best → (k : ℕ) → best ≡ Some k → k < length c.columns
last_in c held r basic n None last k is = let clash : None ≡ Some k = is in cc
last_in c held r basic n (Some w) last k is = subst (λ i. i < length c.columns) (same_Some w k is) last.0.0
