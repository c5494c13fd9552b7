-- What a sink is told.
use Rattle.std.specs.Prelude.{◌≡◌, ℕ, ◌<◌, List, ◌++◌, length, take, map, get_or, Option, option_map, Result, Ok, Err}
use Rattle.cx_base.specs.declared.steps.LogEvent.{LogEvent}
use Rattle.cx_base.specs.declared.steps.LogEvent.TheVariants.{Step, Conflict}
use Rattle.cx_base.specs.declared.steps.LogStep.{LogStep}
use Rattle.cx_texts.specs.Printed.{HasText}
use Rattle.step_text.specs.declared.sink.Sink as sink
use Rattle.step_text.specs.declared.sink.SinkFault.{SinkFault}
use Rattle.step_text.specs.declared.sink.SinkFault.TheVariants.{Failed}
use Rattle.step_text.specs.Sinks.{SinkFaultsAs, HasFailedAs}

abbrev pub as_events : List LogStep → List LogEvent
as_events steps = map Step steps

-- the events and then these, where they are told
abbrev pub with_events : List LogEvent → Option (List LogEvent) → Option (List LogEvent)
with_events more told = option_map (λ es. es ++ more) told

-- Ok: the sink was told these events. Err: a proper prefix of them; after a fault of writing the next one may be torn.
abbrev pub TellsAll : {T : Type 0} → (LogEvent → Type 0) → List LogEvent → Option (List LogEvent) → Result T SinkFault → Option (List LogEvent) → Type 0
TellsAll torn events old (Ok done) new = new ≡ with_events events old
TellsAll torn events old (Err fault) new =
    (k : ℕ) × (k < length events) × (new ≡ with_events (take k events) old) × (fault ≡ Failed → torn (get_or events k (Conflict 0)))

-- the sink has torn this event, which a text can have
abbrev pub IsTornIn : {L : Type 0} → sink.Ghosts L LogEvent → L → LogEvent → Type 0
IsTornIn m log event = m.torn log event × HasText event

-- The sink is told these events, or a prefix of them up to a fault. What the sink keeps is kept.
pub record TellsIn {L T : Type 0} (m : sink.Ghosts L LogEvent) (events : List LogEvent) (old : L) (result : Result T SinkFault) (new : L) : Type 0 where
  pub told : TellsAll (IsTornIn m new) events (m.items old) result (m.items new)
  pub faults : SinkFaultsAs result (m.faults old) (m.faults new)
  pub failed : HasFailedAs result (m.has_failed old) (m.has_failed new)
  pub frame : m.keeps old new

-- a step that a text can have
abbrev pub IsTellable : LogStep → Type 0
IsTellable step = HasText (Step step)

-- the step is this one, and a text can have it
pub record IsStep (this step : LogStep) : Type 0 where
  pub is : step ≡ this
  pub text : IsTellable step
