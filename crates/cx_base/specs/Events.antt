-- The steps of a log's events.
use Rattle.std.specs.Prelude.{List, filter_map, Option, Some, None}
use Rattle.cx_base.specs.declared.steps.LogEvent.{LogEvent}
use Rattle.cx_base.specs.declared.steps.LogEvent.TheVariants as events
use Rattle.cx_base.specs.declared.steps.LogStep.{LogStep}

-- the steps of a list of events
abbrev pub step_of : LogEvent → Option LogStep
step_of (events.Step step) = Some step
step_of (events.Conflict k) = None

abbrev pub steps_of : List LogEvent → List LogStep
steps_of list = filter_map step_of list
