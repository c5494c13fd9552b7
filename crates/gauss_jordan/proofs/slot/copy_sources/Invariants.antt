use Rattle.gauss_jordan.specs.Slots.{AreSources}
use Rattle.gauss_jordan.proofs.slot.copy_sources.Given as goal

abbrev pub invariant-loop-at : goal.invariant-loop-at
invariant-loop-at l = AreSources l.matrix l.row l.sources l.at
