-- What a sink is told, and what its log is worth when the search gives up.
use Rattle.std.specs.Prelude.{◌≡◌, ◌⊎◌, ℕ, Bool, true, ◌+◌, ◌<◌, ◌≤◌, List, [], ◌∷◌, ◌++◌, length, take, map, filter_map, get_or, Option, Some, None, option_map, Result, Ok, Err}
use Rattle.std.specs.List.{AllByRecursion}
use Rattle.cx_base.specs.Problem.{Problem}
use Rattle.cx_base.specs.declared.steps.LogEvent.{LogEvent}
use Rattle.cx_base.specs.declared.steps.LogEvent.TheVariants.{Step, Conflict}
use Rattle.cx_base.specs.declared.steps.LogStep.{LogStep}
use Rattle.cx_semantics.specs.Ids.{HasLowId, highest_id}
use Rattle.cx_semantics.specs.Judging.{IsOpen}
use Rattle.cx_semantics.specs.Marked.{mark_of}
use Rattle.cx_texts.specs.Printed.{HasText}
use Rattle.cx_semantics.specs.LogRules.{log_calculus}
use Rattle.cx_base.specs.Events.{steps_of}
use Rattle.conflict_learn.specs.declared.fault.CoreFault.{CoreFault}
use Rattle.conflict_learn.specs.declared.fault.CoreFault.TheVariants.{Memory, Write}
use Rattle.cx_base.specs.Counts.{Rose}
use Rattle.step_text.specs.declared.sink.SinkFault.{SinkFault}
use Rattle.step_text.specs.declared.sink.SinkFault.TheVariants as sink
use Rattle.search_steps.specs.LogSteps.{IsEnded}
use Rattle.search_steps.specs.Recovering.{SettledWithRecovered}

abbrev pub as_events : List LogStep → List LogEvent
as_events steps = map Step steps

-- the events and these after them, where they are told
abbrev pub with_events : List LogEvent → Option (List LogEvent) → Option (List LogEvent)
with_events more told = option_map (λ es. es ++ more) told

-- Ok: the sink was told these events. Err: a proper prefix of them; after a fault of writing the next one may be torn.
abbrev pub TellsAll : {T : Type 0} → (LogEvent → Type 0) → List LogEvent → Option (List LogEvent) → Result T CoreFault → Option (List LogEvent) → Type 0
TellsAll torn events old (Ok done) new = new ≡ with_events events old
TellsAll torn events old (Err fault) new =
    (k : ℕ) × (k < length events) × (new ≡ with_events (take k events) old) × (fault ≡ Write → torn (get_or events k (Conflict 0)))

-- the search's word for a sink's fault
abbrev pub fault_as : SinkFault → CoreFault
fault_as sink.Memory = Memory
fault_as sink.Failed = Write

-- the count of faults: it rose after a fault of writing, and otherwise it stays
abbrev pub FaultsAs : {T : Type 0} → Result T CoreFault → ℕ → ℕ → Type 0
FaultsAs (Ok done) before now = now ≡ before
FaultsAs (Err Memory) before now = now ≡ before
FaultsAs (Err Write) before now = Rose before now

-- a sink has failed once a fault of writing came
abbrev pub HasFailedBy : Option CoreFault → Bool → Bool → Type 0
HasFailedBy None before now = now ≡ before
HasFailedBy (Some Memory) before now = now ≡ before
HasFailedBy (Some Write) before now = now ≡ true

-- each step of the log is right and none ends it, or just the last one does
abbrev pub IsLeft : Problem → Option (List LogEvent) → Type 0
IsLeft formula None = Unit {0}
IsLeft formula (Some events) = IsOpen (log_calculus formula) (steps_of events) ⊎ IsEnded formula events

-- where the events are told, none is a mark
abbrev pub HasNoMark : Option (List LogEvent) → Type 0
HasNoMark None = Unit {0}
HasNoMark (Some events) = filter_map mark_of events ≡ []

-- The event may follow these: a text can have it, its id is low, and the log is right with it. It is no mark where the formula is settled with its recovered parities.
pub record MayStandBehind (formula : Problem) (told : Option (List LogEvent)) (event : LogEvent) : Type 0 where
  pub text : HasText event
  pub id : HasLowId event
  pub right : IsLeft formula (with_events (event ∷ []) told)
  pub unmarked : SettledWithRecovered formula → mark_of event ≡ None

-- such an event is torn
abbrev pub IsTorn : Problem → (LogEvent → Type 0) → Option (List LogEvent) → Type 0
IsTorn formula torn told = (event : LogEvent) × torn event × MayStandBehind formula told event

-- the search gave up: its log is right as far as it goes, and after a fault of writing an event that may follow is torn
abbrev pub GivesUp : Problem → (LogEvent → Type 0) → Option (List LogEvent) → CoreFault → Type 0
GivesUp formula torn told Memory = IsLeft formula told
GivesUp formula torn told Write = IsLeft formula told × IsTorn formula torn told

-- an id that a step of the search may have
abbrev pub IsId : ℕ → Type 0
IsId n = (1 ≤ n) × (n ≤ highest_id)

-- so are the ids from this one on, up to the one after this many
abbrev pub AreIdsFrom : ℕ → ℕ → Type 0
AreIdsFrom first count = (1 ≤ first) × (first + count ≤ highest_id)

-- a step that the search may tell: a text can have it, and its id is low
abbrev pub IsTellable : LogStep → Type 0
IsTellable step = HasText (Step step) × HasLowId (Step step)

-- the step is this one, and the search may tell it
pub record IsStep (this step : LogStep) : Type 0 where
  pub is : step ≡ this
  pub text : IsTellable step

-- the steps of these events, each of which the search may tell
pub record AreStepsOf (events : List LogEvent) (steps : List LogStep) : Type 0 where
  pub are : as_events steps ≡ events
  pub texts : AllByRecursion IsTellable steps

-- The search may tell these events: a text can have each, and its id is low. None is a mark where the formula is settled with its recovered parities.
pub record AreTellable (formula : Problem) (events : List LogEvent) : Type 0 where
  pub texts : AllByRecursion HasText events
  pub ids : AllByRecursion HasLowId events
  pub unmarked : SettledWithRecovered formula → AllByRecursion (λ e. mark_of e ≡ None) events

-- where the events are told, each has a low id
abbrev pub HaveLowIds : Option (List LogEvent) → Type 0
HaveLowIds None = Unit {0}
HaveLowIds (Some events) = AllByRecursion HasLowId events
