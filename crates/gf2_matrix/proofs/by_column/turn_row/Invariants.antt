use Rattle.std.proofs.Common.{◌≤◌, ◌*◌, ◌-◌, eqb, length}
use Rattle.gf2_matrix.specs.ByColumn.{AreTurned}
use Rattle.gf2_matrix.proofs.by_column.turn_row.Given as goal

abbrev pub invariant-loop-bit : goal.invariant-loop-bit
invariant-loop-bit l = (l.start ≤ l.from) × (l.from ≤ 64 * length l.bits) × AreTurned (λ m. eqb m l.place) l.bits l.start l.fn.sets l.sets (l.from - l.start)

abbrev pub decreases-loop-bit : goal.decreases-loop-bit
decreases-loop-bit l = 64 * length l.bits - l.from
