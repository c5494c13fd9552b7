use Rattle.std.proofs.Common.{◌+◌, ◌-◌, ◌≤◌, length}
use Rattle.gf2_lists.proofs.Merging.{Merged}
use Rattle.gf2_lists.proofs.row.sum_of.Given as goal

abbrev pub invariant-merge : goal.invariant-merge
invariant-merge l = (l.i ≤ length l.a) × (l.j ≤ length l.b) × Merged l.a l.b l.sum.items l.i l.j

abbrev pub decreases-merge : goal.decreases-merge
decreases-merge l = (length l.a - l.i) + (length l.b - l.j)
