use Rattle.std.proofs.Common.{◌≤◌, length, drop}
use Rattle.gf2_lists.proofs.ReduceLaws.{Reducing, reach}
use Rattle.gf2_lists.proofs.reducing.reduced.Given as goal

abbrev pub invariant-walk : goal.invariant-walk
invariant-walk l = (l.at ≤ length l.rest.items) × Reducing l.owners l.rows l.row l.done.items (drop l.at l.rest.items) l.right

abbrev pub decreases-walk : goal.decreases-walk
decreases-walk l = reach (length l.owners) (drop l.at l.rest.items)
