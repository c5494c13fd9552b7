use Rattle.std.proofs.Common.{◌≡◌, None}
use Rattle.cdcl_search.specs.Logs.{GoesOn}
use Rattle.cdcl_core.specs.Reducing.{IsReducing}
use Rattle.cdcl_core.proofs.reducing.reduce.Given as goal

-- some of the clauses are removed and told
abbrev pub invariant-loop-reference : goal.invariant-loop-reference
invariant-loop-reference g l = record {
  reducing : IsReducing g.P.ParityEngine g.L.Sink l.log l.state l.engine;
  conflicts : l.state.conflicts ≡ l.fn.state.conflicts;
  tidies : l.state.tidies ≡ l.fn.state.tidies;
  log : GoesOn g.L.Sink l.fn.log None l.log;
  trail : l.state.trail ≡ l.fn.state.trail;
}
