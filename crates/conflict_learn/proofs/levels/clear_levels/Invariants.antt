use Rattle.std.proofs.Common.{◌≡◌, drop, length}
use Rattle.conflict_learn.specs.Levels.{levels_in}
use Rattle.conflict_learn.proofs.CountedLevels.{AreLeft}
use Rattle.conflict_learn.proofs.levels.clear_levels.Given as goal

abbrev pub invariant-loop-literal : goal.invariant-loop-literal
invariant-loop-literal l = record {
  size : length l.marks ≡ length l.initial.marks;
  left : AreLeft (drop l.literal-index (levels_in l.trail l.lits)) l.marks;
}
