use Rattle.std.proofs.Common.{take}
use Rattle.conflict_learn.specs.Touching.{IsCovered}
use Rattle.conflict_learn.proofs.shortening.is_covered.Given as goal

abbrev pub invariant-loop-literal : goal.invariant-loop-literal
invariant-loop-literal l = IsCovered l.trail l.marks l.own (take l.literal-index l.clause)
