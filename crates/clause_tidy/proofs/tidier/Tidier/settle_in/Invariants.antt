use Rattle.clause_tidy.specs.Agreeing.{AreProper}
use Rattle.clause_tidy.specs.Answers.{HasNoTautology}
use Rattle.clause_tidy.specs.Rooms.{IsRoomFor}
use Rattle.clause_tidy.specs.Weights.{weight}
use Rattle.clause_tidy.proofs.Stages.{IsStage}
use Rattle.clause_tidy.proofs.tidier.Tidier.settle_in.Given as goal

abbrev pub invariant-loop-pair : goal.invariant-loop-pair
invariant-loop-pair g l = record {
  stage : IsStage g.L.Sink l.self.formula.now l.self.spare l.fn.arena l.fn.log l.arena l.log;
  free : HasNoTautology l.arena;
  proper : AreProper l.self.formula.now l.arena;
  room : IsRoomFor l.arena l.room;
}

abbrev pub decreases-loop-pair : goal.decreases-loop-pair
decreases-loop-pair g l = weight l.arena
