-- Events that the search may tell.
use Rattle.std.proofs.Common.{refl, ℕ, zero, suc, ◌<◌, ◌^◌, ℤ, List, [], ◌∷◌, arith}
use Rattle.std.specs.List.{AllByRecursion}
use Rattle.cx_base.specs.Numbers.{AreStepIntegers}
use Rattle.cx_base.specs.Problem.{Problem}
use Rattle.cx_base.specs.declared.steps.LogEvent.{LogEvent}
use Rattle.cx_base.specs.declared.steps.LogEvent.TheVariants.{Step, Conflict}
use Rattle.cx_base.specs.declared.steps.LogStep.{LogStep}
use Rattle.cx_base.specs.declared.steps.LogStep.TheVariants as step
use Rattle.search_steps.specs.LogSteps.{row_events, sum_events}
use Rattle.search_steps.specs.Recovering.{SettledWithRecovered}
use Rattle.cdcl_search.specs.Deleting.{deletions}
use Rattle.cdcl_search.specs.Tells.{IsId, AreIdsFrom, IsTellable, AreTellable}
use Rattle.cdcl_search.specs.Ties.{row_ids}
use Rattle.cdcl_search.proofs.StepTexts.{clause_of_sum_text, deletion_of_sum_text, deletion_text, sum_text}

module _ (formula : Problem) where
  none_is_tellable : AreTellable formula []
  none_is_tellable = record { texts = tt; ids = tt; unmarked = λ s. tt }

  -- a step before such events
  pub step_and_more : (s : LogStep) (events : List LogEvent) → IsTellable s → AreTellable formula events → AreTellable formula (Step s ∷ events)
  step_and_more s events text more = record { texts = (text.0, more.texts); ids = (text.1, more.ids); unmarked = λ settled. (refl, more.unmarked settled) }

  -- a mark before such events, where the formula is not settled
  pub mark_and_more : (n : ℕ) (events : List LogEvent) → n < 2 ^ 64 → ¬ SettledWithRecovered formula → AreTellable formula events → AreTellable formula (Conflict n ∷ events)
  mark_and_more n events fits unsettled more = record { texts = (fits, more.texts); ids = (tt, more.ids); unmarked = λ settled. absurd (unsettled settled) }

  pub deletions_are_tellable : (ids : List ℕ) → AllByRecursion IsId ids → AreTellable formula (deletions ids)
  deletions_are_tellable [] a = none_is_tellable
  deletions_are_tellable (n ∷ ids) a = step_and_more (step.Delete n []) (deletions ids) (deletion_text n [] a.0 refl) (deletions_are_tellable ids a.1)

  -- ---- the steps of a row
  sum_is_tellable : (k : ℕ) (rs : List ℤ) (ids : List ℕ) (n : ℕ) (zs : List ℤ) → IsId k → IsId n → AreStepIntegers rs → AllByRecursion IsId ids → AreStepIntegers zs → AreTellable formula (sum_events k rs ids n zs)
  sum_is_tellable k rs ids n zs i j a b d =
      step_and_more (step.Parity k rs ids) _ (sum_text k rs ids i a b) (step_and_more (step.ClauseOfParity n zs k) _ (clause_of_sum_text n zs k j d i) (step_and_more (step.DeleteParity k []) _ (deletion_of_sum_text k [] i refl) none_is_tellable))

  pub row_is_tellable : (k : ℕ) (rs : List ℤ) (ids : List ℕ) (n : ℕ) (zs : List ℤ) → IsId k → IsId n → AreStepIntegers rs → AllByRecursion IsId ids → AreStepIntegers zs → AreTellable formula (row_events k rs ids n zs)
  row_is_tellable k rs [] n zs i j a b d = sum_is_tellable k rs [] n zs i j a b d
  row_is_tellable k rs (source ∷ []) n zs i j a b d = step_and_more (step.ClauseOfParity n zs source) [] (clause_of_sum_text n zs source j d b.0) none_is_tellable
  row_is_tellable k rs (one ∷ two ∷ ids) n zs i j a b d = sum_is_tellable k rs (one ∷ two ∷ ids) n zs i j a b d

-- ids from a first one on are ids
pub row_ids_are_proper : (first count : ℕ) → AreIdsFrom first count → AllByRecursion IsId (row_ids first count)
row_ids_are_proper first zero a = tt
row_ids_are_proper first (suc n) a =
    let low = a.0 in
    let high = a.1 in
    ((omega (arith, low), omega (arith, high)), row_ids_are_proper first n (low, omega (arith, high)))
