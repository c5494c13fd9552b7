use Rattle.std.proofs.Common.{◌≡◌, ◌≢◌, ◌-◌, [], length, None}
use Rattle.search_policy.specs.Assuming.{KeepsAssumptions}
use Rattle.search_steps.specs.Recovering.{SettledWithRecovered}
use Rattle.parity_engine.specs.declared.state.Mood.TheVariants.{Broken}
use Rattle.cdcl_search.specs.Logs.{GoesOn, Stands}
use Rattle.cdcl_search.proofs.searching.search_on.Given as goal

abbrev pub invariant-loop-reached : goal.invariant-loop-reached
invariant-loop-reached g l = record {
  stands : Stands g.P.ParityEngine g.L.Sink l.log l.state l.engine [];
  unbroken : (g.P.ParityEngine.state l.engine).mood ≢ Broken;
  settled : SettledWithRecovered l.log.formula.now → l.state.trail.level ≡ l.fn.state.trail.level;
  keeps : KeepsAssumptions l.log.formula.now.constraints l.assumptions l.state.trail;
  conflicts : l.state.conflicts ≡ l.fn.state.conflicts;
  tidies : l.state.tidies ≡ l.fn.state.tidies;
  log : GoesOn g.L.Sink l.fn.log None l.log;
}

abbrev pub decreases-loop-reached : goal.decreases-loop-reached
decreases-loop-reached g l = l.log.formula.now.variables - length l.state.trail.entries
