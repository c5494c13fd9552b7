use Rattle.std.proofs.Common.{◌*◌, ◌-◌, length}
use Rattle.gauss_incremental.proofs.Listing.{WokenSoFar}
use Rattle.gauss_incremental.proofs.marks.wake_set.Given as goal

abbrev pub invariant-loop-slot : goal.invariant-loop-slot
invariant-loop-slot l = WokenSoFar l.set l.columns.basics.now l.columns.watched.now l.fn.line.flags l.line.flags l.column l.step l.from

abbrev pub decreases-loop-slot : goal.decreases-loop-slot
decreases-loop-slot l = 64 * length l.set - l.from
