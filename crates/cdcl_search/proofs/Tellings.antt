-- What holds of the formula and of the events that a log tells, after a telling.
use Rattle.std.proofs.Common.{◌≡◌, sym, ap, ◌∙◌, subst, List, [], Option, None, Some, Result, Ok, Err}
use Rattle.std.specs.Prelude.{OnOk}
use Rattle.cx_base.specs.Problem.{Problem}
use Rattle.cx_base.specs.declared.steps.LogEvent.{LogEvent}
use Rattle.conflict_learn.specs.declared.fault.CoreFault.{CoreFault}
use Rattle.cdcl_search.specs.declared.logs.SearchLog.{SearchLog}
use Rattle.step_text.specs.declared.sink.Sink as sink
use Rattle.cdcl_search.specs.Calls.{Tells}
use Rattle.cdcl_search.specs.GoingOn.{log_then}
use Rattle.cdcl_search.specs.Logs.{GoesOn, IsRightBehind}
use Rattle.cdcl_search.specs.Tells.{IsLeft, with_events}
use Rattle.cdcl_search.proofs.Events.{no_more}

-- where these events were told, what holds of them holds of the log
pub holds_told : {L : Type 0} (K : Problem → Option (List LogEvent) → Type 0) (more : List LogEvent) (m : sink.Ghosts L LogEvent) (old : SearchLog L) (why : Option CoreFault) (new : SearchLog L) → GoesOn m old why new
    → m.items new.sink.now ≡ with_events more (m.items old.sink.now) → K old.formula.now (with_events more (m.items old.sink.now)) → K new.formula.now (m.items new.sink.now)
holds_told K more m old why new on told h = subst (λ f. K f (m.items new.sink.now)) (sym on.formula) (subst (K old.formula.now) (sym told) h)

pub holds_where : {L T : Type 0} (K : Problem → Option (List LogEvent) → Type 0) (more : List LogEvent) (m : sink.Ghosts L LogEvent) (old : SearchLog L) (why : Option CoreFault) (r : Result T CoreFault) (new : SearchLog L) → GoesOn m old why new
    → OnOk r (m.items new.sink.now ≡ with_events more (m.items old.sink.now)) → K old.formula.now (with_events more (m.items old.sink.now)) → OnOk r (K new.formula.now (m.items new.sink.now))
holds_where K more m old why (Ok x) new on told h = holds_told K more m old why new on told h
holds_where K more m old why (Err fault) new on told h = tt

-- what holds of the formula goes on to hold
pub formula_holds : {L T : Type 0} (K : Problem → Type 0) (m : sink.Ghosts L LogEvent) (old : SearchLog L) (why : Option CoreFault) (r : Result T CoreFault) (new : SearchLog L) → GoesOn m old why new → K old.formula.now → OnOk r (K new.formula.now)
formula_holds K m old why (Ok x) new on h = subst K (sym on.formula) h
formula_holds K m old why (Err fault) new on h = tt

-- what a log that was told nothing may be told, and what it is told
module _ {L : Type 0} (m : sink.Ghosts L LogEvent) (old between : SearchLog L) (none : Tells {T = Unit {0}} m old [] (Ok tt) between) where
  still_told : m.items between.sink.now ≡ m.items old.sink.now
  still_told = none.told ∙ no_more (m.items old.sink.now)

  pub still_right : (events more : List LogEvent) → events ≡ more → IsRightBehind m old more → IsRightBehind m between events
  still_right events more same right = subst (λ f. IsLeft f (with_events events (m.items between.sink.now))) (sym none.log.formula)
      (subst (IsLeft old.formula.now) (sym (ap (with_events events) still_told ∙ ap (λ es. with_events es (m.items old.sink.now)) same)) right)

  pub tells_still : {T : Type 0} → ((a b c : L) → m.keeps a b → m.keeps b c → m.keeps a c) → (events more : List LogEvent) → events ≡ more → (r : Result T CoreFault) (new : SearchLog L) → Tells m between events r new → Tells m old more r new
  tells_still on events more same (Ok x) new t = record { told = t.told ∙ ap (with_events events) still_told ∙ ap (λ es. with_events es (m.items old.sink.now)) same; log = log_then m on old between new None none.log t.log }
  tells_still on events more same (Err fault) new t = record { told = tt; log = log_then m on old between new (Some fault) none.log t.log }
