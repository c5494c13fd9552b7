use Rattle.std.proofs.Common.{◌-◌, length}
use Rattle.gauss_incremental.proofs.Listing.{SlotSoFar}
use Rattle.gauss_incremental.proofs.marks.wake_slot.Given as goal

abbrev pub invariant-loop-row : goal.invariant-loop-row
invariant-loop-row l = SlotSoFar l.columns.basics.now l.columns.watched.now l.column l.slot l.step l.fn.line.flags l.line.flags l.row

abbrev pub decreases-loop-row : goal.decreases-loop-row
decreases-loop-row l = length l.fn.line.flags - l.row
