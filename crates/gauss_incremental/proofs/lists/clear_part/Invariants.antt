use Rattle.gauss_incremental.specs.Lists.{IsClearedPart}
use Rattle.gauss_incremental.proofs.lists.clear_part.Given as goal

abbrev pub invariant-loop-i : goal.invariant-loop-i
invariant-loop-i l = IsClearedPart l.fn.words l.words l.start l.i
