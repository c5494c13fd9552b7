use Rattle.std.proofs.Common.{◌≡◌, ◌-◌, true, None}
use Rattle.conflict_learn.specs.Marks.{AreClear}
use Rattle.search_steps.specs.Recovering.{SettledWithRecovered}
use Rattle.search_policy.specs.Assuming.{KeepsAssumptions}
use Rattle.cdcl_core.specs.Concluding.{SearchGoesOn}
use Rattle.cdcl_core.specs.LogLines.{AreTidyLines, GoesOnIn}
use Rattle.cdcl_core.specs.Rounds.{IsSameRun}
use Rattle.cdcl_core.specs.Scheduling.{IsOnSchedule}
use Rattle.cdcl_core.proofs.rounds.Run.search_in_rounds.Given as goal

abbrev pub invariant-loop-assumptions : goal.invariant-loop-assumptions
invariant-loop-assumptions g l = record {
  goes_on : SearchGoesOn l.self.log.now.formula.now l.fn.self.budget (g.L.Sink.items l.self.log.now.sink.now) l.self.state.now (g.P.ParityEngine.state l.self.engine.now);
  settled : SettledWithRecovered l.self.log.now.formula.now → (l.self.state.now.trail.level ≡ 0) × (l.self.state.now.conflicts ≡ 0);
  clear : AreClear l.marks;
  keeps : KeepsAssumptions l.self.log.now.formula.now.constraints l.assumptions l.self.state.now.trail;
  tidies : l.self.state.now.tidies ≡ l.fn.self.state.now.tidies;
  on : IsOnSchedule l.schedule l.self.state.now.conflicts;
  lines : l.fn.self.state.now.tidies ≡ true → AreTidyLines l.schedule.restarts (g.L.Sink.lines l.self.log.now.sink.now);
  log : GoesOnIn l.fn.self.state.now.tidies g.L.Sink l.fn.self.log.now None l.self.log.now;
  same : IsSameRun l.fn.self l.self;
}

abbrev pub decreases-loop-assumptions : goal.decreases-loop-assumptions
decreases-loop-assumptions g l = l.fn.self.budget - l.self.state.now.conflicts
