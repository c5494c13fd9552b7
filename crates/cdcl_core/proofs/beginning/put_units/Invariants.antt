use Rattle.std.proofs.Common.{◌≡◌, List, drop, None}
use Rattle.cx_base.specs.Literals.{Literal}
use Rattle.cdcl_search.specs.Logs.{GoesOn}
use Rattle.cdcl_core.specs.Waiting.{SearchStandsBut}
use Rattle.cdcl_core.proofs.beginning.put_units.Given as goal

-- the unit clauses from this place on wait
abbrev pub invariant-loop-place : goal.invariant-loop-place
invariant-loop-place g l = record {
  stands : (engines : List (List Literal)) → SearchStandsBut l.fn.log.formula.now engines l.fn.state l.units (g.L.Sink.items l.fn.log.sink.now)
      → SearchStandsBut l.log.formula.now engines l.state (drop l.place l.units) (g.L.Sink.items l.log.sink.now);
  tidies : l.state.tidies ≡ l.fn.state.tidies;
  log : GoesOn g.L.Sink l.fn.log None l.log;
}
