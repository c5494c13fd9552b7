use Rattle.std.proofs.Common.{◌≡◌, ℕ, ◌<◌, false}
use Rattle.gf2_matrix.specs.Content.{has, row_at}
use Rattle.gf2_matrix.proofs.independent.contradiction.Given as goal

abbrev pub invariant-loop-row : goal.invariant-loop-row
invariant-loop-row l = (r : ℕ) → r < l.row → ((x : ℕ) → has (row_at l.matrix.rows r) x ≡ false) → (row_at l.matrix.rows r).right ≡ false
