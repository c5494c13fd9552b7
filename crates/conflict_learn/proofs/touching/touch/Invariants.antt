use Rattle.std.proofs.Common.{take}
use Rattle.conflict_learn.specs.Marks.{StandBetween}
use Rattle.conflict_learn.specs.Touching.{Touched}
use Rattle.conflict_learn.proofs.touching.touch.Given as goal

abbrev pub invariant-loop-literal : goal.invariant-loop-literal
invariant-loop-literal l = Touched l.skip l.fn.marks l.marks (take l.literal-index l.literals) × StandBetween l.trail l.marks l.low l.below
