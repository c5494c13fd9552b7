-- A step that ends the log: the log is right to its end, the marks are as before, and nothing meets the formula.
use Rattle.std.proofs.Common.{◌≡◌, refl, sym, ap, ◌∙◌, subst, ℕ, ℤ, Bool, true, false, not, ◌||◌, MatchBool, List, [], ◌∷◌, ◌++◌, length, Some, is_some, true≢false, length-append, append-nil, inl, inr}
use Rattle.std.proofs.lemmas.List.Elements.{filter_map-append}
use Rattle.std.specs.List.{list_all, cons_option}
use Rattle.std.proofs.lemmas.Bool.{and_parts}
use Rattle.cx_base.specs.Literals.{Literal}
use Rattle.cx_base.specs.Problem.{Problem, Unmet, clause_met, parity_met}
use Rattle.cx_base.specs.declared.steps.LogStep.{LogStep}
use Rattle.cx_base.specs.declared.steps.LogStep.TheVariants.{ClauseWithHints, ClauseOfParity}
use Rattle.cx_base.specs.declared.steps.LogEvent.{LogEvent}
use Rattle.cx_base.specs.declared.steps.LogEvent.TheVariants.{Step}
use Rattle.cx_semantics.specs.Implied.{Implies}
use Rattle.cx_base.specs.Integers.{literals}
use Rattle.cx_base.specs.Assumptions.{IsFailed}
use Rattle.cx_semantics.specs.Chain.{negations}
use Rattle.cx_semantics.specs.Judging.{IsRight, EndsAt}
use Rattle.cx_semantics.specs.LogRules.{log_calculus, derived_clause, derives_ending_clause}
use Rattle.cx_base.specs.Events.{steps_of, step_of}
use Rattle.cx_semantics.specs.Marked.{Marked, StepFits, IsLearned, IsKnown, first_moment, after_event, mark_of}
use Rattle.cx_semantics.specs.ProofRules.{all_met}
use Rattle.cx_semantics.specs.Tables.{get, named}
use Rattle.cx_semantics.proofs.MarkedLaws.{events_go_on}
use Rattle.cx_semantics.proofs.FailingLaws.{ended_steps_fail}
use Rattle.cx_semantics.proofs.Soundness.{right_steps_are_unmet}
use Rattle.search_steps.specs.Hints.{AreHintsFor, IsHinted, AreHinted}
use Rattle.search_steps.specs.Search.{Search, IsSearchIn}
use Rattle.search_steps.specs.LogSteps.{IsAddition, IsEnded, IsClauseOfRow}
use Rattle.search_steps.specs.Schedule.{IsScheduledIn}
use Rattle.search_steps.proofs.HintLaws.{step_is_hinted}
use Rattle.search_steps.proofs.ScheduleLaws.{MayFollow, moment_is, scheduled_then}
use Rattle.search_steps.proofs.LogLaws.{begins_still}

-- a log that is right to its end shows that no values meet the formula
pub ended_is_unmet : (formula : Problem) (events : List LogEvent) → IsEnded formula events → Unmet formula
ended_is_unmet formula events (inl clash) = right_steps_are_unmet formula (steps_of events) 0 (inl (clash, refl))
ended_is_unmet formula events (inr ended) = right_steps_are_unmet formula (steps_of events) (length (steps_of events)) (inr ended)

module _ {tidies : Bool} (formula : Problem) (parities : List (List Literal)) (s : Search) (ok : IsSearchIn tidies formula parities s) where
  -- a right step that ends the log
  last_step_there : (step : LogStep) → IsRight (log_calculus formula) s.moment.tables step → derives_ending_clause formula step ≡ true
      → EndsAt (log_calculus formula) (steps_of (s.events ++ Step step ∷ [])) (length (steps_of (s.events ++ Step step ∷ [])))
  last_step_there step is_right ends = record {
    before = steps_of s.events;
    step = step;
    later = [];
    tables = s.moment.tables;
    split = split;
    runs = ok.log.runs;
    right = is_right;
    ends = ends;
    number = ap length split ∙ length-append (steps_of s.events) (step ∷ []);
  }
    where
      split : steps_of (s.events ++ Step step ∷ []) ≡ steps_of s.events ++ step ∷ []
      split = filter_map-append step_of s.events (Step step ∷ [])

  pub last_step_ends : (step : LogStep) → IsRight (log_calculus formula) s.moment.tables step → derives_ending_clause formula step ≡ true → IsEnded formula (s.events ++ Step step ∷ [])
  last_step_ends step is_right ends = inr (ok.log.apart, last_step_there step is_right ends)

  -- what it shows
  pub last_step_fails : (step : LogStep) → IsRight (log_calculus formula) s.moment.tables step → derives_ending_clause formula step ≡ true → IsFailed formula (negations (derived_clause step))
  unfolding last_step_there
  last_step_fails step is_right ends = ended_steps_fail formula (steps_of (s.events ++ Step step ∷ [])) (length (steps_of (s.events ++ Step step ∷ []))) (last_step_there step is_right ends)

  -- and the marks are those of before
  pub last_step_is_marked : (step : LogStep) → StepFits formula s.moment step → (after_event s.moment (Step step)).awaits ≡ false → Marked formula (s.events ++ Step step ∷ []) s.conflicts
  last_step_is_marked step fits served = record {
    marks = filter_map-append mark_of s.events (Step step ∷ []) ∙ append-nil _ ∙ ok.log.marks;
    originals = begins_still formula.constraints s.events (Step step ∷ []) ok.log.originals;
    last = after_event s.moment (Step step);
    fit = events_go_on formula first_moment s.moment s.events (Step step) ok.log.fits fits;
    served = served;
  }

  -- and no learned clause is deleted by it
  last_step_is_scheduled : (step : LogStep) → MayFollow tidies s.events (Step step) → IsScheduledIn tidies (s.events ++ Step step ∷ [])
  last_step_is_scheduled step may = scheduled_then tidies s.events (Step step) ok.log.scheduled may

  pub chained_clause_is_scheduled : (n : ℕ) (zs hints : List ℤ) → IsScheduledIn tidies (s.events ++ Step (ClauseWithHints n zs hints) ∷ [])
  chained_clause_is_scheduled n zs hints = last_step_is_scheduled (ClauseWithHints n zs hints) (λ k ys is among. cc)

  pub row_clause_is_scheduled : (n : ℕ) (zs : List ℤ) (source : ℕ) → IsScheduledIn tidies (s.events ++ Step (ClauseOfParity n zs source) ∷ [])
  row_clause_is_scheduled n zs source = last_step_is_scheduled (ClauseOfParity n zs source) (λ k ys is among. cc)

  -- and its hints are right
  last_step_is_hinted : (step : LogStep) → IsHinted s.moment.tables step → AreHinted (s.events ++ Step step ∷ [])
  last_step_is_hinted step right = step_is_hinted s.events s.moment (moment_is formula s.moment s.events ok.log.fits) step ok.log.hinted right

  pub chained_clause_is_hinted : (n : ℕ) (zs hints : List ℤ) → AreHintsFor s.moment.tables.clauses (literals zs) hints → AreHinted (s.events ++ Step (ClauseWithHints n zs hints) ∷ [])
  chained_clause_is_hinted n zs hints right = last_step_is_hinted (ClauseWithHints n zs hints) right

  pub row_clause_is_hinted : (n : ℕ) (zs : List ℤ) (source : ℕ) → AreHinted (s.events ++ Step (ClauseOfParity n zs source) ∷ [])
  row_clause_is_hinted n zs source = last_step_is_hinted (ClauseOfParity n zs source) tt

  -- a clause with right hints, while no clause is owed
  pub chained_clause_ends : (n : ℕ) (zs hints : List ℤ) → IsAddition formula s.moment.tables.clauses n zs → AreHintsFor s.moment.tables.clauses (literals zs) hints → derives_ending_clause formula (ClauseWithHints n zs hints) ≡ true
      → IsEnded formula (s.events ++ Step (ClauseWithHints n zs hints) ∷ [])
  chained_clause_ends n zs hints a right ends = last_step_ends (ClauseWithHints n zs hints) (a.within, (ap is_some a.free, ((right.ids, right.live, right.chain), tt))) ends

  pub chained_clause_fails : (n : ℕ) (zs hints : List ℤ) → IsAddition formula s.moment.tables.clauses n zs → AreHintsFor s.moment.tables.clauses (literals zs) hints → derives_ending_clause formula (ClauseWithHints n zs hints) ≡ true
      → IsFailed formula (negations (literals zs))
  chained_clause_fails n zs hints a right ends = last_step_fails (ClauseWithHints n zs hints) (a.within, (ap is_some a.free, ((right.ids, right.live, right.chain), tt))) ends

  pub chained_clause_is_marked : (n : ℕ) (zs hints : List ℤ) → s.moment.awaits ≡ false → derives_ending_clause formula (ClauseWithHints n zs hints) ≡ true → Marked formula (s.events ++ Step (ClauseWithHints n zs hints) ∷ []) s.conflicts
  chained_clause_is_marked n zs hints served ends = last_step_is_marked (ClauseWithHints n zs hints)
      (subst (λ b. MatchBool b (IsLearned s.moment (literals zs)) (derives_ending_clause formula (ClauseWithHints n zs hints) ≡ false → IsKnown s.moment (literals zs))) (sym served) (λ e. absurd (true≢false (sym ends ∙ e))))
      refl

  -- the clause of a row
  row_clause_is_right : (n : ℕ) (zs : List ℤ) (source : ℕ) (row : List Literal) → IsAddition formula s.moment.tables.clauses n zs → get s.moment.tables.parities source ≡ Some row
      → IsClauseOfRow formula.variables row (literals zs) → IsRight (log_calculus formula) s.moment.tables (ClauseOfParity n zs source)
  row_clause_is_right n zs source row a live c = (a.within, (ap is_some a.free, (ap (λ b. not b || false) (ap is_some live), (implied, tt))))
    where
      implied : Implies (all_met parity_met (named s.moment.tables.parities (source ∷ []))) (λ values. clause_met values (literals zs))
      implied values h = c.implied values (and_parts (parity_met values row) true (ap (λ o. list_all (parity_met values) (cons_option o [])) (sym live) ∙ h)).0

  pub row_clause_ends : (n : ℕ) (zs : List ℤ) (source : ℕ) (row : List Literal) → IsAddition formula s.moment.tables.clauses n zs → get s.moment.tables.parities source ≡ Some row
      → IsClauseOfRow formula.variables row (literals zs) → derives_ending_clause formula (ClauseOfParity n zs source) ≡ true → IsEnded formula (s.events ++ Step (ClauseOfParity n zs source) ∷ [])
  row_clause_ends n zs source row a live c ends = last_step_ends (ClauseOfParity n zs source) (row_clause_is_right n zs source row a live c) ends

  pub row_clause_fails : (n : ℕ) (zs : List ℤ) (source : ℕ) (row : List Literal) → IsAddition formula s.moment.tables.clauses n zs → get s.moment.tables.parities source ≡ Some row
      → IsClauseOfRow formula.variables row (literals zs) → derives_ending_clause formula (ClauseOfParity n zs source) ≡ true → IsFailed formula (negations (literals zs))
  row_clause_fails n zs source row a live c ends = last_step_fails (ClauseOfParity n zs source) (row_clause_is_right n zs source row a live c) ends

  pub row_clause_is_marked : (n : ℕ) (zs : List ℤ) (source : ℕ) (row : List Literal) → s.moment.awaits ≡ false → get s.moment.tables.parities source ≡ Some row → IsClauseOfRow formula.variables row (literals zs)
      → Marked formula (s.events ++ Step (ClauseOfParity n zs source) ∷ []) s.conflicts
  row_clause_is_marked n zs source row served live c = last_step_is_marked (ClauseOfParity n zs source) (row, live, c.one_of_each) served
