use Rattle.std.proofs.Common.{take}
use Rattle.conflict_learn.specs.Levels.{levels_in}
use Rattle.conflict_learn.proofs.CountedLevels.{AreMet}
use Rattle.conflict_learn.proofs.levels.mark_levels.Given as goal

abbrev pub invariant-loop-literal : goal.invariant-loop-literal
invariant-loop-literal l = AreMet (take l.literal-index (levels_in l.trail l.lits)) l.initial.marks l.marks l.count
