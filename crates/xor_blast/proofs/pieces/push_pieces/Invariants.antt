use Rattle.std.proofs.Common.{◌-◌, length}
use Rattle.xor_blast.proofs.PushingLaws.{Pushing}
use Rattle.xor_blast.proofs.pieces.push_pieces.Given as goal

abbrev pub invariant-loop-start : goal.invariant-loop-start
invariant-loop-start l = Pushing l.vars l.fn.variables.items l.right l.fn.builder l.last l.variables.items l.start l.builder

abbrev pub decreases-loop-start : goal.decreases-loop-start
decreases-loop-start l = length l.variables.items - l.start
