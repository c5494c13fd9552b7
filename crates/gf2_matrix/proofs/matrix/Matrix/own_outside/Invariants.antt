use Rattle.std.proofs.Common.{ℕ, ◌≤◌, ◌<◌, ◌-◌, length}
use Rattle.gf2_matrix.specs.Content.{IsOutside, IsShared}
use Rattle.gf2_matrix.proofs.matrix.Matrix.own_outside.Given as goal

abbrev pub invariant-loop-column : goal.invariant-loop-column
invariant-loop-column l = (l.from ≤ l.next) × ((k : ℕ) → l.from ≤ k → k < l.next → IsOutside l.self l.mask l.row k → IsShared l.self l.row k)

abbrev pub decreases-loop-column : goal.decreases-loop-column
decreases-loop-column l = length l.self.columns - l.next
