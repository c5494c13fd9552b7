use Rattle.std.proofs.Common.{◌≤◌, ◌-◌, length}
use Rattle.gf2_space.proofs.Supporting.{RowSoFar}
use Rattle.gf2_space.proofs.supports.take_row.Given as goal

abbrev pub invariant-loop-column : goal.invariant-loop-column
invariant-loop-column l = (l.from ≤ length l.rows.columns) × RowSoFar l.rows l.row l.var 0 l.from l.fn.supports l.supports

abbrev pub decreases-loop-column : goal.decreases-loop-column
decreases-loop-column l = length l.rows.columns - l.from
