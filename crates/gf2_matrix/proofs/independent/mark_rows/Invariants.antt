use Rattle.std.proofs.Common.{◌≡◌, ℕ, ◌<◌, length, true, false, get_or}
use Rattle.gf2_matrix.specs.Content.{has, row_at}
use Rattle.gf2_matrix.proofs.independent.mark_rows.Given as goal

abbrev pub invariant-loop-row : goal.invariant-loop-row
invariant-loop-row l = (r x k : ℕ) → r < l.row → k < length l.matrix.given → has (row_at l.matrix.rows r) x ≡ true → get_or (row_at l.matrix.rows r).sources k false ≡ true → get_or l.marks k false ≡ true
