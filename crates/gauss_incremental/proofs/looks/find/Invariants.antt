use Rattle.std.proofs.Common.{◌-◌}
use Rattle.gauss_incremental.proofs.looks.find.Given as goal

abbrev pub decreases-loop-looks : goal.decreases-loop-looks
decreases-loop-looks l = l.count - l.looks.looked
