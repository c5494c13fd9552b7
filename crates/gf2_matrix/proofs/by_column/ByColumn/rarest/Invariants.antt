use Rattle.std.proofs.Common.{◌≤◌, ◌*◌, ◌-◌, length}
use Rattle.gf2_matrix.proofs.ByColumns.{IsRarestBefore}
use Rattle.gf2_matrix.proofs.by_column.ByColumn.rarest.Given as goal

abbrev pub invariant-loop-bit : goal.invariant-loop-bit
invariant-loop-bit l = (l.start ≤ l.from) × (l.from ≤ 64 * length l.bits) × IsRarestBefore l.bits l.start l.self.sets l.from l.rarest l.fewest

abbrev pub decreases-loop-bit : goal.decreases-loop-bit
decreases-loop-bit l = 64 * length l.bits - l.from
