-- What a sink was told, event by event.
use Rattle.std.proofs.Common.{◌≡◌, refl, sym, ap, ◌∙◌, subst, ℕ, Bool, zero, suc, ◌<◌, List, [], ◌∷◌, ◌++◌, length, take, get_or, Option, Some, None, Result, Ok, Err, arith, append_assoc, append-nil}
use Rattle.std.proofs.lemmas.List.{length-map, take-map, get_or-map}
use Rattle.cx_base.specs.declared.steps.LogStep.{LogStep}
use Rattle.cx_base.specs.declared.steps.LogEvent.{LogEvent}
use Rattle.cx_base.specs.declared.steps.LogEvent.TheVariants.{Step, Conflict}
use Rattle.conflict_learn.specs.declared.fault.CoreFault.{CoreFault}
use Rattle.conflict_learn.specs.declared.fault.CoreFault.TheVariants.{Memory, Write}
use Rattle.step_text.specs.declared.sink.SinkFault.{SinkFault}
use Rattle.step_text.specs.declared.sink.SinkFault.TheVariants as sink
use Rattle.step_text.specs.Sinks.{SinkFaultsAs, HasFailedAs, OnFailed}
use Rattle.cdcl_search.specs.Tells.{TellsAll, FaultsAs, HasFailedBy, as_events, with_events, fault_as}

pub no_more : (told : Option (List LogEvent)) → with_events [] told ≡ told
no_more None = refl
no_more (Some es) = ap Some (append-nil es)

pub more_and_more : (a b : List LogEvent) (told : Option (List LogEvent)) → with_events b (with_events a told) ≡ with_events (a ++ b) told
more_and_more a b None = refl
more_and_more a b (Some es) = ap Some (append_assoc es a b)

-- ---- one event
module _ (torn : LogEvent → Type 0) (event : LogEvent) (old new : Option (List LogEvent)) where
  pub one_is_not_told : (fault : SinkFault) (is : CoreFault) → is ≡ fault_as fault → new ≡ old → OnFailed {T = Unit {0}} (Err fault) (torn event) → TellsAll {T = Unit {0}} torn (event ∷ []) old (Err is) new
  one_is_not_told sink.Memory is e same t = (0, omega arith, same ∙ sym (no_more old), λ w. absurd (other (sym e ∙ w)))
    where
      other : Memory ≡ Write → ⊥
      other w = cc
  one_is_not_told sink.Failed is e same t = (0, omega arith, same ∙ sym (no_more old), λ w. t)

pub faults_as : (fault : SinkFault) (is : CoreFault) (before now : ℕ) → is ≡ fault_as fault → SinkFaultsAs {T = Unit {0}} (Err fault) before now → FaultsAs {T = Unit {0}} (Err is) before now
faults_as sink.Memory is before now e h = subst (λ f. FaultsAs {T = Unit {0}} (Err f) before now) (sym e) h
faults_as sink.Failed is before now e h = subst (λ f. FaultsAs {T = Unit {0}} (Err f) before now) (sym e) h

pub failed_as : (fault : SinkFault) (is : CoreFault) (before now : Bool) → is ≡ fault_as fault → HasFailedAs {T = Unit {0}} (Err fault) before now → HasFailedBy (Some is) before now
failed_as sink.Memory is before now e h = subst (λ f. HasFailedBy (Some f) before now) (sym e) h
failed_as sink.Failed is before now e h = subst (λ f. HasFailedBy (Some f) before now) (sym e) h

-- ---- steps one after another
-- the step at a place is not told
pub stops_there : (torn : LogEvent → Type 0) (steps : List LogStep) (i : ℕ) (s : LogStep) (first old new : Option (List LogEvent)) (fault : CoreFault) → i < length steps → s ≡ get_or steps i s
    → old ≡ with_events (as_events (take i steps)) first → TellsAll {T = Unit {0}} torn (Step s ∷ []) old (Err fault) new → TellsAll {T = Unit {0}} torn (as_events steps) first (Err fault) new
stops_there torn steps i s first old new fault less read was (zero, small, is, t) = (
  i,
  let long = length-map steps Step in omega (arith, long, less),
  is ∙ no_more old ∙ was ∙ ap (λ es. with_events es first) (sym (take-map Step i steps)),
  λ w. subst torn (ap Step read ∙ sym (get_or-map Step steps i s (Conflict 0) less)) (t w),
)
stops_there torn steps i s first old new fault less read was (suc k, small, is, t) = absurd (omega (arith, small))

-- a mark and the steps after it
pub mark_is_told : (torn : LogEvent → Type 0) (event : LogEvent) (events : List LogEvent) (old between new : Option (List LogEvent)) (r : Result (Unit {0}) CoreFault)
    → between ≡ with_events (event ∷ []) old → TellsAll torn events between r new → TellsAll torn (event ∷ events) old r new
mark_is_told torn event events old between new (Ok u) first rest = rest ∙ ap (with_events events) first ∙ more_and_more (event ∷ []) events old
mark_is_told torn event events old between new (Err fault) first (k, less, is, t) = (
  suc k,
  omega (arith, less),
  is ∙ ap (with_events (take k events)) first ∙ more_and_more (event ∷ []) (take k events) old,
  t,
)
