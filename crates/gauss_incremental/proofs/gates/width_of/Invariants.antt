use Rattle.std.proofs.Common.{◌-◌, length}
use Rattle.gauss_incremental.proofs.gates.width_of.Given as goal

abbrev pub decreases-loop-column : goal.decreases-loop-column
decreases-loop-column l = length l.matrix.columns - l.from
