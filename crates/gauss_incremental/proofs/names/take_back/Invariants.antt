use Rattle.std.specs.Prelude.{map}
use Rattle.gauss_incremental.specs.Namings.{as_held}
use Rattle.gauss_incremental.proofs.TrailLaws.{AreTaken}
use Rattle.gauss_incremental.proofs.names.take_back.Given as goal

abbrev pub invariant-loop-left : goal.invariant-loop-left
invariant-loop-left l = AreTaken l.level l.order (map as_held l.fn.named) (map as_held l.named) l.left

abbrev pub decreases-loop-left : goal.decreases-loop-left
decreases-loop-left l = l.left
