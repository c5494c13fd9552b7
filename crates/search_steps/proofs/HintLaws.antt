-- A log whose hints are right, and one more event.
use Rattle.std.proofs.Common.{◌≡◌, sym, ◌∙◌, subst, ℕ, ◌+◌, List, [], ◌∷◌, ◌++◌, inl, inr}
use Rattle.cx_base.specs.declared.constraint.Constraint.{Constraint}
use Rattle.cx_base.specs.declared.constraint.Constraint.TheVariants as constraint
use Rattle.cx_base.specs.declared.steps.LogEvent.{LogEvent}
use Rattle.cx_base.specs.declared.steps.LogEvent.TheVariants.{Step, Conflict}
use Rattle.cx_base.specs.declared.steps.LogStep.{LogStep}
use Rattle.cx_base.specs.declared.steps.LogStep.TheVariants.{Original, OriginalParity}
use Rattle.cx_base.specs.Integers.{integers_of}
use Rattle.cx_semantics.specs.Marked.{Moment, original_events}
use Rattle.cx_semantics.specs.Tables.{Tables}
use Rattle.search_steps.specs.Hints.{IsHinted, AreHinted}
use Rattle.search_steps.specs.Schedule.{moment_after}
use Rattle.search_steps.proofs.ScheduleLaws.{last_or_before}

-- the next event is no step, or one whose hints are right
abbrev IsHintedAfter : List LogEvent → LogEvent → Type 0
IsHintedAfter events event = (step : LogStep) → event ≡ Step step → IsHinted (moment_after events).tables step

hinted_then : (events : List LogEvent) (event : LogEvent) → AreHinted events → IsHintedAfter events event → AreHinted (events ++ event ∷ [])
hinted_then events event on right front step later split = elim (last_or_before events event front (Step step) later split) [
  | inl (these, is) ↦ subst (λ (es : List LogEvent). IsHinted (moment_after es).tables step) these (right step is)
  | inr (rest, is) ↦ on front step rest is
]

pub step_is_hinted : (events : List LogEvent) (moment : Moment) → moment ≡ moment_after events → (step : LogStep) → AreHinted events → IsHinted moment.tables step → AreHinted (events ++ Step step ∷ [])
step_is_hinted events moment same step on right = hinted_then events (Step step) on (λ other is.
    let it : step ≡ other = cc in
    subst (λ (m : Moment). IsHinted m.tables other) same (subst (IsHinted moment.tables) it right))

pub mark_is_hinted : (events : List LogEvent) (k : ℕ) → AreHinted events → AreHinted (events ++ Conflict k ∷ [])
mark_is_hinted events k on = hinted_then events (Conflict k) on (λ step is. cc)

-- ---- the formula's constraints
originals_need_none : (n k : ℕ) (cs : List Constraint) (front : List LogEvent) (step : LogStep) (later : List LogEvent) → original_events n k cs ≡ front ++ Step step ∷ later → (tables : Tables) → IsHinted tables step
originals_need_none n k [] [] step later is tables = cc
originals_need_none n k [] (f ∷ front) step later is tables = cc
originals_need_none n k (constraint.Clause lits ∷ cs) [] step later is tables = let it : Original n (integers_of lits) ≡ step = cc in subst (IsHinted tables) it tt
originals_need_none n k (constraint.Clause lits ∷ cs) (f ∷ front) step later is tables = let rest : original_events (n + 1) k cs ≡ front ++ Step step ∷ later = cc in originals_need_none (n + 1) k cs front step later rest tables
originals_need_none n k (constraint.Parity lits ∷ cs) [] step later is tables = let it : OriginalParity k (integers_of lits) ≡ step = cc in subst (IsHinted tables) it tt
originals_need_none n k (constraint.Parity lits ∷ cs) (f ∷ front) step later is tables = let rest : original_events n (k + 1) cs ≡ front ++ Step step ∷ later = cc in originals_need_none n (k + 1) cs front step later rest tables
originals_need_none n k (constraint.Assume lits ∷ cs) front step later is tables = originals_need_none n k cs front step later is tables

pub originals_are_hinted : (cs : List Constraint) (events : List LogEvent) → events ≡ original_events 1 1 cs → AreHinted events
originals_are_hinted cs events are front step later split = originals_need_none 1 1 cs front step later (sym are ∙ split) (moment_after front).tables
