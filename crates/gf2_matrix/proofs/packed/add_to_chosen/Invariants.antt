use Rattle.std.proofs.Common.{◌≤◌, ◌*◌, ◌-◌, length}
use Rattle.gf2_matrix.specs.Packed.{ArePivoted}
use Rattle.gf2_matrix.proofs.packed.add_to_chosen.Given as goal

abbrev pub invariant-loop-place : goal.invariant-loop-place
invariant-loop-place l = (l.from ≤ 64 * length l.chosen) × ArePivoted l.pivot.row l.pivot.bit l.pivot.copy.now l.numbers l.fn.rows l.rows l.from

abbrev pub decreases-loop-place : goal.decreases-loop-place
decreases-loop-place l = 64 * length l.chosen - l.from
