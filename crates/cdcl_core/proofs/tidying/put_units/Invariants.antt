use Rattle.std.proofs.Common.{drop, None}
use Rattle.cdcl_search.specs.Logs.{GoesOn}
use Rattle.cdcl_core.specs.Tidying.{StandsBeside, StaysAtRestart}
use Rattle.cdcl_core.proofs.tidying.put_units.Given as goal

-- the units from this place on wait
abbrev pub invariant-loop-place : goal.invariant-loop-place
invariant-loop-place g l = record {
  beside : StandsBeside l.log.formula.now l.state (g.P.ParityEngine.state l.engine) (drop l.place l.units) (drop l.place l.ids) (g.L.Sink.items l.log.sink.now);
  stays : StaysAtRestart l.fn.state l.state;
  log : GoesOn g.L.Sink l.fn.log None l.log;
}
