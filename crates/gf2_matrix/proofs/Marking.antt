-- Parities that say what all of them say.
use Rattle.std.proofs.Common.{◌≡◌, ℕ, ◌+◌, ◌-◌, ◌<◌, ◌≤◌, suc, Bool, true, false, ◌&&◌, List, [], ◌∷◌, map, length, get_or, refl, sym, ap, ◌∙◌, subst, arith, inl, inr, true≢false, Option, Some, None}
use Rattle.std.specs.List.{AllByRecursion}
use Rattle.std.specs.Option.{MatchOption, is_some}
use Rattle.std.specs.Simd.Lanes.{zip2}
use Rattle.cx_base.specs.Literals.{Literal, differ}
use Rattle.cx_base.specs.Problem.{AreWithin, parity_met}
use Rattle.cx_base.specs.Parity.{normal_form, odd_sum}
use Rattle.cx_base.proofs.ParityLaws.{Sums, AllSum, Sums-from_met, Sums-sum_of}
use Rattle.parity_engine.specs.Equations.{parity_number, numbered, numbers_from}
use Rattle.gf2_matrix.specs.Totals.{MeetsEquation}
use Rattle.gf2_matrix.specs.Content.{Content, IsOfGiven, HasOwnColumn, equation, has, row_at, source_numbers}
use Rattle.gf2_matrix.specs.Enough.{SayAll}
use Rattle.gf2_matrix.proofs.FormSums.{below_from_within, every-at, meets_from_Sums}

-- values that meet the parities whose bits are set meet each of their numbers
source_sums : (vars : ℕ) (v : List Bool) (given : List (List Literal)) (bs : List Bool) (k : ℕ) → AllByRecursion (AreWithin vars) given
    → 1 ≤ k → k + length bs ≤ length given + 1
    → ((i : ℕ) → i < length bs → get_or bs i false ≡ true → parity_met v (get_or given (k + i - 1) []) ≡ true)
    → AllSum (suc vars) v (map normal_form (numbered given (numbers_from k bs)))
source_sums vars v given [] k within low high met = tt
source_sums vars v given (true ∷ bs) k within low high met =
    let lt : k - 1 < length given = omega arith in
    let here : k + 0 - 1 ≡ k - 1 = omega arith in (
      Sums-from_met (suc vars) v (parity_number given k) (below_from_within vars vars (parity_number given k) (omega arith) (every-at (AreWithin vars) given (k - 1) [] within lt))
          (ap (λ j. parity_met v (get_or given j [])) (sym here) ∙ met 0 (omega arith) refl),
      source_sums vars v given bs (k + 1) within (omega arith) (omega arith)
          (λ i small on. let at : k + 1 + i - 1 ≡ k + suc i - 1 = omega arith in ap (λ j. parity_met v (get_or given j [])) at ∙ met (suc i) (omega arith) on),
    )
source_sums vars v given (false ∷ bs) k within low high met =
    source_sums vars v given bs (k + 1) within (omega arith) (omega arith)
    (λ i small on. let at : k + 1 + i - 1 ≡ k + suc i - 1 = omega arith in ap (λ j. parity_met v (get_or given j [])) at ∙ met (suc i) (omega arith) on)

no_total : (terms v : List Bool) → ((x : ℕ) → get_or terms x false ≡ false) → odd_sum (zip2 ◌&&◌ terms v) ≡ false
no_total [] v none = refl
no_total (t ∷ terms) [] none = refl
no_total (t ∷ terms) (b ∷ v) none = λ i. differ (none 0 i && b) (no_total terms v (λ x. none (suc x)) i)

module _ (c : Content) (of_given : IsOfGiven c) (marks : List Bool) (wide : length marks ≡ length c.given) where
  -- values that meet the marked parities meet a row whose sources are marked
  met_by_marked : (r : ℕ) → r < length c.rows → (v : List Bool) → length v ≡ c.vars
      → ((k : ℕ) → k < length c.given → get_or marks k false ≡ true → parity_met v (get_or c.given k []) ≡ true)
      → ((k : ℕ) → k < length c.given → get_or (row_at c.rows r).sources k false ≡ true → get_or marks k false ≡ true) → MeetsEquation v (equation (row_at c.rows r))
  met_by_marked r lt v long met marked =
      let l = of_given.long r lt in
      meets_from_Sums c.vars v (equation (row_at c.rows r)) (l.0 ∙ sym long) (omega arith)
      (subst (Sums (suc c.vars) v) (sym (of_given.sums r lt))
      (Sums-sum_of (suc c.vars) v (map normal_form (numbered c.given (source_numbers (row_at c.rows r))))
      (source_sums c.vars v c.given (row_at c.rows r).sources 1 of_given.within (omega arith) (let h = l.1 in omega arith)
      (λ i small on.
      let at : 1 + i - 1 ≡ i = omega arith in
      ap (λ j. parity_met v (get_or c.given j [])) at ∙ met i (let h = l.1 in omega arith) (marked i (let h = l.1 in omega arith) on)))))

  -- those that add up to a contradiction
  pub of_contradiction : (r : ℕ) → r < length c.rows → ((x : ℕ) → has (row_at c.rows r) x ≡ false) → (row_at c.rows r).right ≡ true
      → ((k : ℕ) → k < length c.given → get_or (row_at c.rows r).sources k false ≡ true → get_or marks k false ≡ true) → SayAll c.vars c.given marks
  of_contradiction r lt none right marked = record {
    long = wide;
    enough = λ v long met.
        absurd (true≢false (sym right ∙ sym (met_by_marked r lt v long met marked) ∙ no_total (row_at c.rows r).terms v none));
  }

  -- those that the rows with a variable are sums of
  pub of_rows : ((r : ℕ) → r < length c.rows → ((x : ℕ) → has (row_at c.rows r) x ≡ false) → (row_at c.rows r).right ≡ false)
      → ((r : ℕ) → r < length c.rows → HasOwnColumn c r)
      → ((r x k : ℕ) → r < length c.rows → k < length c.given → has (row_at c.rows r) x ≡ true → get_or (row_at c.rows r).sources k false ≡ true → get_or marks k false ≡ true)
      → SayAll c.vars c.given marks
  of_rows right own marked = record {
    long = wide;
    enough = λ v long met.
        of_given.complete v long
        (λ r lt.
        elim (own r lt) [
          | inl none ↦ no_total (row_at c.rows r).terms v none ∙ sym (right r lt none)
          | inr some ↦ met_by_marked r lt v long met (λ k small on. marked r some.0 k lt small some.1 on)
        ]);
  }

-- a row of which no column was found has no variable
pub none_found : (c : Content) (r : ℕ) (found : Option ℕ) → IsOfGiven c → r < length c.rows → is_some found ≡ false
    → MatchOption found ((k : ℕ) → k < length c.columns → has (row_at c.rows r) (get_or c.columns k 0 - 1) ≡ false)
    (λ k. (k < length c.columns) × (has (row_at c.rows r) (get_or c.columns k 0 - 1) ≡ true)) → (x : ℕ) → has (row_at c.rows r) x ≡ true → ⊥
none_found c r (Some k) of_given lt off none x given = true≢false off
none_found c r None of_given lt off none x given =
    let column = of_given.in_columns r lt x given in
    let here : get_or c.columns column.0 0 - 1 ≡ x = let e = column.2 in omega arith in
    true≢false (sym given ∙ ap (has (row_at c.rows r)) (sym here) ∙ none column.0 column.1)
