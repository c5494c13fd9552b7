-- What a sink was told, event by event.
use Rattle.std.proofs.Common.{◌≡◌, refl, sym, ap, ◌∙◌, subst, ℕ, zero, suc, ◌<◌, List, [], ◌∷◌, ◌++◌, length, take, get_or, Option, Some, None, Err, arith, append_assoc, append-nil}
use Rattle.std.proofs.lemmas.List.{length-map, take-map, get_or-map}
use Rattle.cx_base.specs.declared.steps.LogStep.{LogStep}
use Rattle.cx_base.specs.declared.steps.LogEvent.{LogEvent}
use Rattle.cx_base.specs.declared.steps.LogEvent.TheVariants.{Step, Conflict}
use Rattle.cx_texts.specs.Printed.{HasText}
use Rattle.step_text.specs.declared.sink.SinkFault.{SinkFault}
use Rattle.step_text.specs.declared.sink.SinkFault.TheVariants.{Memory, Failed}
use Rattle.step_text.specs.Sinks.{OnFailed}
use Rattle.step_text.specs.declared.sink.Sink as sink
use Rattle.clause_tidy.specs.Telling.{TellsAll, TellsIn, as_events, with_events}

pub no_more : (told : Option (List LogEvent)) → with_events [] told ≡ told
no_more None = refl
no_more (Some es) = ap Some (append-nil es)

pub more_and_more : (a b : List LogEvent) (told : Option (List LogEvent)) → with_events b (with_events a told) ≡ with_events (a ++ b) told
more_and_more a b None = refl
more_and_more a b (Some es) = ap Some (append_assoc es a b)

-- one event
pub one_is_not_told : (torn : LogEvent → Type 0) (event : LogEvent) (old new : Option (List LogEvent)) (fault : SinkFault) → new ≡ old → OnFailed {T = Unit {0}} (Err fault) (torn event)
    → TellsAll {T = Unit {0}} torn (event ∷ []) old (Err fault) new
one_is_not_told torn event old new Memory same t = (0, omega arith, same ∙ sym (no_more old), λ w. absurd (other w))
  where
    other : Memory ≡ Failed → ⊥
    other w = cc
one_is_not_told torn event old new Failed same t = (0, omega arith, same ∙ sym (no_more old), λ w. t)

-- a torn event has the text that it was to get
pub torn_with_text : (torn : LogEvent → Type 0) (event : LogEvent) (fault : SinkFault) → HasText event → OnFailed {T = Unit {0}} (Err fault) (torn event) → OnFailed {T = Unit {0}} (Err fault) (torn event × HasText event)
torn_with_text torn event Memory text t = t
torn_with_text torn event Failed text t = (t, text)

-- steps one after another: the step at a place is not told
pub stops_there : (torn : LogEvent → Type 0) (steps : List LogStep) (i : ℕ) (s : LogStep) (first old new : Option (List LogEvent)) (fault : SinkFault) → i < length steps → s ≡ get_or steps i s
    → old ≡ with_events (as_events (take i steps)) first → TellsAll {T = Unit {0}} torn (Step s ∷ []) old (Err fault) new → TellsAll {T = Unit {0}} torn (as_events steps) first (Err fault) new
stops_there torn steps i s first old new fault less read was (zero, small, is, t) = (
  i,
  let long = length-map steps Step in omega (arith, long, less),
  is ∙ no_more old ∙ was ∙ ap (λ es. with_events es first) (sym (take-map Step i steps)),
  λ w. subst torn (ap Step read ∙ sym (get_or-map Step steps i s (Conflict 0) less)) (t w),
)
stops_there torn steps i s first old new fault less read was (suc k, small, is, t) = absurd (omega (arith, small))

-- nothing of some events is told
pub nothing_told : {L T : Type 0} (m : sink.Ghosts L LogEvent) (event : LogEvent) (events : List LogEvent) (old : L) → m.keeps old old → TellsIn {T = T} m (event ∷ events) old (Err Memory) old
nothing_told {L} {T} m event events old keeps = record { told = (0, omega arith, sym (no_more (m.items old)), λ w. absurd (other w)); faults = refl; failed = refl; frame = keeps }
  where
    other : Memory ≡ Failed → ⊥
    other w = cc
