-- What is right over fewer variables is right over more.
use Rattle.std.proofs.Common.{◌≡◌, refl, ap, ◌∙◌, ℕ, ℤ, nat_abs, ◌≤◌, false, ◌||◌, nat_lt, List, [], ◌∷◌, arith}
use Rattle.std.specs.List.{list_any}
use Rattle.std.proofs.lemmas.Bool.{or_parts, le-ltb, ltb-false}
use Rattle.cx_base.specs.Problem.{Problem}
use Rattle.cx_base.specs.declared.steps.LogStep.{LogStep}
use Rattle.cx_base.specs.declared.steps.LogStep.TheVariants.{Original, OriginalParity, Clause, ClauseWithHints, Parity, ClauseOfParity, ParityOfClauses, Delete, DeleteParity, Final, FinalParity, MoveClauses, MoveParities}
use Rattle.cx_base.specs.declared.steps.LogEvent.{LogEvent}
use Rattle.cx_base.specs.declared.steps.LogEvent.TheVariants.{Step, Conflict}
use Rattle.cx_semantics.specs.Tables.{Tables}
use Rattle.cx_semantics.specs.Judging.{IsRight, Runs, EndsAt, IsOpen}
use Rattle.cx_semantics.specs.LogRules.{log_calculus, derives_ending_clause, after_log_step}
use Rattle.cx_semantics.specs.Marked.{Marked, Moment, StepFits, EventFits, EventsFit, after_event}
use Rattle.cdcl_core.specs.Narrowing.{over}

none_above_more : (m n : ℕ) (zs : List ℤ) → m ≤ n → list_any (λ z. nat_lt m (nat_abs z)) zs ≡ false → list_any (λ z. nat_lt n (nat_abs z)) zs ≡ false
none_above_more m n [] few h = refl
none_above_more m n (z ∷ zs) few h =
    let p = or_parts (nat_lt m (nat_abs z)) (list_any (λ y. nat_lt m (nat_abs y)) zs) h in
    let low : nat_abs z ≤ m = ltb-false m (nat_abs z) p.0 in
    ap (λ b. b || list_any (λ y. nat_lt n (nat_abs y)) zs) (le-ltb n (nat_abs z) (omega (arith, low, few))) ∙ none_above_more m n zs few p.1

module _ (m : ℕ) (formula : Problem) (few : m ≤ formula.variables) where
  more : (zs : List ℤ) → list_any (λ z. nat_lt m (nat_abs z)) zs ≡ false → list_any (λ z. nat_lt formula.variables (nat_abs z)) zs ≡ false
  more zs h = none_above_more m formula.variables zs few h

  step_is_right : (tables : Tables) (step : LogStep) → IsRight (log_calculus (over m formula)) tables step → IsRight (log_calculus formula) tables step
  step_is_right tables (Original n lits) h = (more lits h.0, h.1)
  step_is_right tables (OriginalParity n lits) h = (more lits h.0, h.1)
  step_is_right tables (Clause n lits) h = (more lits h.0, h.1)
  step_is_right tables (ClauseWithHints n lits hints) h = (more lits h.0, h.1)
  step_is_right tables (Parity n lits sources) h = (more lits h.0, h.1)
  step_is_right tables (ClauseOfParity n lits source) h = (more lits h.0, h.1)
  step_is_right tables (ParityOfClauses n lits sources) h = (more lits h.0, h.1)
  step_is_right tables (Delete n lits) h = h
  step_is_right tables (DeleteParity n lits) h = h
  step_is_right tables (Final n lits) h = h
  step_is_right tables (FinalParity n lits) h = h
  step_is_right tables (MoveClauses moves) h = h
  step_is_right tables (MoveParities moves) h = h

  same_ends : (step : LogStep) → derives_ending_clause formula step ≡ derives_ending_clause (over m formula) step
  same_ends (Original n lits) = refl
  same_ends (OriginalParity n lits) = refl
  same_ends (Clause n lits) = refl
  same_ends (ClauseWithHints n lits hints) = refl
  same_ends (Parity n lits sources) = refl
  same_ends (ClauseOfParity n lits source) = refl
  same_ends (ParityOfClauses n lits sources) = refl
  same_ends (Delete n lits) = refl
  same_ends (DeleteParity n lits) = refl
  same_ends (Final n lits) = refl
  same_ends (FinalParity n lits) = refl
  same_ends (MoveClauses moves) = refl
  same_ends (MoveParities moves) = refl

  runs_over_more : (first last : Tables) (steps : List LogStep) → Runs (log_calculus (over m formula)) first steps last → Runs (log_calculus formula) first steps last
  runs_over_more first last [] h = h
  runs_over_more first last (step ∷ steps) h = (step_is_right first step h.0, same_ends step ∙ h.1, runs_over_more (after_log_step first step) last steps h.2)

  pub open_over_more : (steps : List LogStep) → IsOpen (log_calculus (over m formula)) steps → IsOpen (log_calculus formula) steps
  open_over_more steps h = (h.0, (h.1.0, runs_over_more _ h.1.0 steps h.1.1))

  pub ends_over_more : (steps : List LogStep) (k : ℕ) → EndsAt (log_calculus (over m formula)) steps k → EndsAt (log_calculus formula) steps k
  ends_over_more steps k e = record {
    before = e.before;
    step = e.step;
    later = e.later;
    tables = e.tables;
    split = e.split;
    runs = runs_over_more _ e.tables e.before e.runs;
    right = step_is_right e.tables e.step e.right;
    ends = same_ends e.step ∙ e.ends;
    number = e.number;
  }

  -- ---- marks

  step_fits : (moment : Moment) (step : LogStep) → StepFits (over m formula) moment step → StepFits formula moment step
  step_fits moment (Original n lits) h = h
  step_fits moment (OriginalParity n lits) h = h
  step_fits moment (Clause n lits) h = h
  step_fits moment (ClauseWithHints n lits hints) h = h
  step_fits moment (Parity n lits sources) h = h
  step_fits moment (ClauseOfParity n lits source) h = h
  step_fits moment (ParityOfClauses n lits sources) h = h
  step_fits moment (Delete n lits) h = h
  step_fits moment (DeleteParity n lits) h = h
  step_fits moment (Final n lits) h = h
  step_fits moment (FinalParity n lits) h = h
  step_fits moment (MoveClauses moves) h = h
  step_fits moment (MoveParities moves) h = h

  event_fits : (moment : Moment) (event : LogEvent) → EventFits (over m formula) moment event → EventFits formula moment event
  event_fits moment (Step step) h = step_fits moment step h
  event_fits moment (Conflict k) h = record { served = h.served; kept = h.kept; no_old_clauses = h.no_old_clauses; no_old_sums = h.no_old_sums }

  events_fit : (first last : Moment) (events : List LogEvent) → EventsFit (over m formula) first events last → EventsFit formula first events last
  events_fit first last [] h = h
  events_fit first last (event ∷ events) h = (event_fits first event h.0, events_fit (after_event first event) last events h.1)

  pub marked_over_more : (events : List LogEvent) (n : ℕ) → Marked (over m formula) events n → Marked formula events n
  marked_over_more events n h = record { marks = h.marks; originals = h.originals; last = h.last; fit = events_fit _ h.last events h.fit; served = h.served }
