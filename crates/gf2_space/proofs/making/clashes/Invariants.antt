use Rattle.std.proofs.Common.{◌≡◌, ◌<◌, ℕ, false}
use Rattle.gf2_matrix.specs.Content.{row_at, has}
use Rattle.gf2_space.proofs.making.clashes.Given as goal

abbrev pub invariant-loop-r : goal.invariant-loop-r
invariant-loop-r l = (r : ℕ) → r < l.r → ((x : ℕ) → has (row_at l.rows.rows r) x ≡ false) → (row_at l.rows.rows r).right ≡ false
