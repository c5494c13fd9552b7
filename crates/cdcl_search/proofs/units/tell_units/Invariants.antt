use Rattle.std.proofs.Common.{◌≡◌, ◌-◌, ◌≤◌, [], length, None}
use Rattle.cdcl_search.specs.Logs.{GoesOn, Stands}
use Rattle.cdcl_search.specs.Units.{HasOther}
use Rattle.cdcl_search.proofs.units.tell_units.Given as goal

abbrev pub invariant-loop-log : goal.invariant-loop-log
invariant-loop-log g l = record {
  level : l.state.trail.level ≡ 0;
  stands : Stands g.P.ParityEngine g.L.Sink l.log l.state l.fn.engine [];
  few : length l.state.units.items ≤ length l.state.trail.entries;
  same : HasOther l.fn.state l.state;
  log : GoesOn g.L.Sink l.fn.log None l.log;
}

abbrev pub decreases-loop-log : goal.decreases-loop-log
decreases-loop-log g l = length l.state.trail.entries - length l.state.units.items
