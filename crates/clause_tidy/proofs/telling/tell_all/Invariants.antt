use Rattle.std.proofs.Common.{◌≡◌}
use Rattle.clause_tidy.specs.Telling.{as_events, with_events}
use Rattle.clause_tidy.proofs.telling.tell_all.Given as goal

-- the steps so far are told, and no fault was counted
abbrev pub invariant-loop-step : goal.invariant-loop-step
invariant-loop-step g l =
    (g.L.Sink.items l.log ≡ with_events (as_events l.yielded) (g.L.Sink.items l.fn.log)) × (g.L.Sink.faults l.log ≡ g.L.Sink.faults l.fn.log) × (g.L.Sink.has_failed l.log ≡ g.L.Sink.has_failed l.fn.log) × g.L.Sink.keeps l.fn.log l.log
