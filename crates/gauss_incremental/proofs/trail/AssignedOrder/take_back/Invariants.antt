use Rattle.gauss_incremental.proofs.TrailLaws.{TakenSoFar}
use Rattle.gauss_incremental.proofs.trail.AssignedOrder.take_back.Given as goal

abbrev pub invariant-loop-left : goal.invariant-loop-left
invariant-loop-left l = TakenSoFar l.self.matrix.now.columns l.level l.self.trail.now l.fn.held l.held l.assigned l.truths l.left

abbrev pub decreases-loop-left : goal.decreases-loop-left
decreases-loop-left l = l.left
