use Rattle.std.proofs.Common.{◌≤◌, ◌*◌, ◌-◌, length}
use Rattle.gf2_rows.specs.Bits.{bit_of}
use Rattle.gf2_matrix.specs.ByColumn.{AreTurned}
use Rattle.gf2_matrix.proofs.by_column.turn_sets.Given as goal

abbrev pub invariant-loop-bit : goal.invariant-loop-bit
invariant-loop-bit l = (l.start ≤ l.from) × (l.from ≤ 64 * length l.bits) × AreTurned (bit_of l.chosen) l.bits l.start l.fn.sets l.sets (l.from - l.start)

abbrev pub decreases-loop-bit : goal.decreases-loop-bit
decreases-loop-bit l = 64 * length l.bits - l.from
