use Rattle.std.proofs.Common.{◌+◌, ◌-◌, ◌≤◌, length}
use Rattle.xor_reason.proofs.Merging.{Merged}
use Rattle.xor_reason.proofs.sums.numbers_of_sum.Given as goal

abbrev pub invariant-merge : goal.invariant-merge
invariant-merge l = (l.i ≤ length l.a) × (l.j ≤ length l.b) × Merged l.a l.b l.sum.items l.i l.j

abbrev pub decreases-merge : goal.decreases-merge
decreases-merge l = (length l.a - l.i) + (length l.b - l.j)
