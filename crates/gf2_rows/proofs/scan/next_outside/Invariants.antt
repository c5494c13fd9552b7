use Rattle.std.proofs.Common.{◌≤◌, ◌*◌, ◌-◌, length, None}
use Rattle.std.specs.Slice.Scan.{HoldsNowhere}
use Rattle.gf2_rows.specs.Bits.{is_outside}
use Rattle.gf2_rows.proofs.scan.next_outside.Given as goal

abbrev pub invariant-loop-k : goal.invariant-loop-k
invariant-loop-k l = (l.from ≤ l.k) × (l.k ≤ 64 * length l.row) × HoldsNowhere (is_outside l.row l.mask None) l.from l.k

abbrev pub decreases-loop-k : goal.decreases-loop-k
decreases-loop-k l = 64 * length l.row - l.k
