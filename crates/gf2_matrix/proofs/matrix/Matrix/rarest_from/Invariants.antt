use Rattle.std.proofs.Common.{◌≤◌, ◌-◌, length}
use Rattle.gf2_matrix.proofs.Rarest.{IsRarestSoFar}
use Rattle.gf2_matrix.proofs.matrix.Matrix.rarest_from.Given as goal

abbrev pub invariant-loop-column : goal.invariant-loop-column
invariant-loop-column l = (l.first ≤ l.next) × IsRarestSoFar l.self l.mask l.row l.first l.next l.rarest l.fewest

abbrev pub decreases-loop-column : goal.decreases-loop-column
decreases-loop-column l = length l.self.columns - l.next
