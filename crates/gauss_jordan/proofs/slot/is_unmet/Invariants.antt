use Rattle.gauss_jordan.specs.Slots.{IsSlotSum}
use Rattle.gauss_jordan.proofs.slot.is_unmet.Given as goal

abbrev pub invariant-loop-at : goal.invariant-loop-at
invariant-loop-at l = IsSlotSum l.slot l.held l.at l.sum
