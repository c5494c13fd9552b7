use Rattle.gauss_jordan.proofs.ScratchEvents.{AreEmpty}
use Rattle.gauss_jordan.proofs.slot.empty_slots.Given as goal

abbrev pub invariant-loop : goal.invariant-loop
invariant-loop l = AreEmpty l.vars l.parities l.slots.items l.counter
