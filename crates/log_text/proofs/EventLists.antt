-- A list of events has no more steps than events.
use Rattle.std.proofs.Common.{◌≤◌, List, [], ◌∷◌, length, arith}
use Rattle.cx_base.specs.declared.steps.LogEvent.{LogEvent}
use Rattle.cx_base.specs.declared.steps.LogEvent.TheVariants.{Step, Conflict}
use Rattle.cx_base.specs.Events.{steps_of}

pub steps_are_no_more : (events : List LogEvent) → length (steps_of events) ≤ length events
steps_are_no_more [] = omega arith
steps_are_no_more (Step step ∷ events) = let h = steps_are_no_more events in omega arith
steps_are_no_more (Conflict k ∷ events) = let h = steps_are_no_more events in omega arith
