use Rattle.std.proofs.Common.{◌-◌, length}
use Rattle.gauss_incremental.specs.Heights.{IsLast}
use Rattle.gauss_incremental.proofs.watching.Levels.last_assigned.Given as goal

abbrev pub invariant-loop-next : goal.invariant-loop-next
invariant-loop-next l = IsLast l.self.matrix.now l.self.held.now l.row l.basic l.next l.best

abbrev pub decreases-loop-next : goal.decreases-loop-next
decreases-loop-next l = length l.self.matrix.now.columns - l.next
