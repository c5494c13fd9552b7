-- What the steps of a tidying leave of what a search counts.
use Rattle.std.proofs.Common.{◌≡◌, ◌≢◌, refl, sym, ap, ◌∙◌, subst, ℕ, ℤ, Bool, true, false, cond, ◌||◌, nat_eq, eqb-true, List, [], ◌∷◌, true≢false}
use Rattle.cx_base.specs.Literals.{Literal}
use Rattle.cx_base.specs.Problem.{Problem}
use Rattle.cx_base.specs.declared.steps.LogEvent.TheVariants.{Step}
use Rattle.cx_base.specs.declared.steps.LogStep.{LogStep}
use Rattle.cx_base.specs.declared.steps.LogStep.TheVariants.{Original, OriginalParity, Clause, ClauseWithHints, Parity, ClauseOfParity, ParityOfClauses, Delete, DeleteParity, Final, FinalParity, MoveClauses, MoveParities}
use Rattle.conflict_learn.proofs.ChainOfResolutions.{by_cases}
use Rattle.cx_semantics.specs.Marked.{Moment, after_event, is_among, without}
use Rattle.cx_semantics.specs.Tables.{Tables}
use Rattle.tidy_rules.specs.Runs.{IsTidyStep, NoneDeletes, RunsTidily}
use Rattle.search_steps.specs.Search.{Search, IsSearchIn, told}
use Rattle.search_steps.specs.TidySteps.{IsAtStart, SpareReasons, steps_told}
use Rattle.search_steps.proofs.CoverLaws.{not_before}
use Rattle.search_steps.proofs.TidySteps.{no_reduction, step_keeps}

or_none : (b : Bool) → (b || false) ≡ b
or_none true = refl
or_none false = refl

-- ---- one step
-- another id is deleted
differs : (k n : ℕ) (zs : List ℤ) → ((ys : List ℤ) → Delete k zs ≢ Delete n ys) → nat_eq n k ≡ false
differs k n zs other = by_cases (nat_eq n k) (λ e. absurd (other zs (ap (λ i. Delete i zs) (sym (eqb-true n k e))))) (λ e. e)

learned_then : (m : Moment) (step : LogStep) → IsTidyStep m.tables.clauses step → m.awaits ≡ false → (n : ℕ) → ((zs : List ℤ) → step ≢ Delete n zs) → is_among m.learned n ≡ true → is_among (after_event m (Step step)).learned n ≡ true
learned_then m (ClauseWithHints k zs hints) tidy served n other h = subst (λ b. is_among (cond b (k ∷ m.learned) m.learned) n ≡ true) (sym served) h
learned_then m (Delete k zs) tidy served n other h = by_cases (is_among (without m.learned k) n) (λ e. e)
    (λ e. absurd (true≢false (sym h ∙ not_before m.learned k n (differs k n zs other) e)))
learned_then m (Clause k zs) tidy served n other h = absurd tidy
learned_then m (Original k zs) tidy served n other h = absurd tidy
learned_then m (OriginalParity k zs) tidy served n other h = absurd tidy
learned_then m (Parity k zs sources) tidy served n other h = absurd tidy
learned_then m (ClauseOfParity k zs source) tidy served n other h = absurd tidy
learned_then m (ParityOfClauses k zs sources) tidy served n other h = absurd tidy
learned_then m (DeleteParity k zs) tidy served n other h = absurd tidy
learned_then m (Final k zs) tidy served n other h = absurd tidy
learned_then m (FinalParity k zs) tidy served n other h = absurd tidy
learned_then m (MoveClauses moves) tidy served n other h = absurd tidy
learned_then m (MoveParities moves) tidy served n other h = absurd tidy

module _ (formula : Problem) (parities : List (List Literal)) where
  reduces_still : (s : Search) → IsSearchIn true formula parities s → IsAtStart s → (step : LogStep) → IsTidyStep s.moment.tables.clauses step
      → ((after_event s.moment (Step step)).reductions ≡ s.moment.reductions) × ((after_event s.moment (Step step)).reduces ≡ s.moment.reduces)
  reduces_still s ok at (ClauseWithHints n zs hints) tidy = (refl, refl)
  reduces_still s ok at (Delete n zs) tidy = (refl, ap (λ b. s.moment.reduces || b) (no_reduction formula parities s ok at n zs tidy) ∙ or_none s.moment.reduces)
  reduces_still s ok at (Clause n zs) tidy = absurd tidy
  reduces_still s ok at (Original n zs) tidy = absurd tidy
  reduces_still s ok at (OriginalParity n zs) tidy = absurd tidy
  reduces_still s ok at (Parity n zs sources) tidy = absurd tidy
  reduces_still s ok at (ClauseOfParity n zs source) tidy = absurd tidy
  reduces_still s ok at (ParityOfClauses n zs sources) tidy = absurd tidy
  reduces_still s ok at (DeleteParity n zs) tidy = absurd tidy
  reduces_still s ok at (Final n zs) tidy = absurd tidy
  reduces_still s ok at (FinalParity n zs) tidy = absurd tidy
  reduces_still s ok at (MoveClauses moves) tidy = absurd tidy
  reduces_still s ok at (MoveParities moves) tidy = absurd tidy

  -- ---- all steps
  pub tidy_counts : (s : Search) → IsSearchIn true formula parities s → IsAtStart s → (steps : List LogStep) (last : Tables) → RunsTidily formula s.moment.tables steps last → SpareReasons s.trail steps
      → ((n : ℕ) → NoneDeletes n steps → is_among s.moment.learned n ≡ true → is_among (steps_told s steps).moment.learned n ≡ true)
      × ((steps_told s steps).moment.reductions ≡ s.moment.reductions) × ((steps_told s steps).moment.reduces ≡ s.moment.reduces)
  tidy_counts s ok at [] last runs spare = ((λ n none h. h), refl, refl)
  tidy_counts s ok at (step ∷ steps) last (is_right, goes, tidy, runs) spare =
      let one = step_keeps formula parities s ok at step is_right goes tidy spare.0 in
      let rest = tidy_counts (told s (Step step)) one.0 one.1 steps last runs spare.1 in
      let here = reduces_still s ok at step tidy in
      ((λ n none h. rest.0 n none.1 (learned_then s.moment step tidy at.tidy.served n none.0 h)), rest.1 ∙ here.0, rest.2 ∙ here.1)
