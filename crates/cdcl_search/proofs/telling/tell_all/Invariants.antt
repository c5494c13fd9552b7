use Rattle.std.proofs.Common.{◌≡◌}
use Rattle.cdcl_search.specs.Tells.{as_events, with_events}
use Rattle.cdcl_search.proofs.telling.tell_all.Given as goal

-- the steps so far are told, no fault was counted, and the sink has failed only where it had before
abbrev pub invariant-loop-step : goal.invariant-loop-step
invariant-loop-step g l =
    (g.L.Sink.items l.sink ≡ with_events (as_events l.yielded) (g.L.Sink.items l.fn.sink)) × (g.L.Sink.faults l.sink ≡ g.L.Sink.faults l.fn.sink) × (g.L.Sink.has_failed l.sink ≡ g.L.Sink.has_failed l.fn.sink) × g.L.Sink.keeps l.fn.sink l.sink
