use Rattle.std.proofs.Common.{◌≡◌, ℕ, ◌<◌, true, false, get_or}
use Rattle.gf2_matrix.specs.Content.{row_at}
use Rattle.gf2_matrix.proofs.independent.mark_sources.Given as goal

abbrev pub invariant-loop-at : goal.invariant-loop-at
invariant-loop-at l = ((k : ℕ) → get_or l.fn.marks k false ≡ true → get_or l.marks k false ≡ true)
    × ((k : ℕ) → k < l.at → get_or (row_at l.matrix.rows l.row).sources k false ≡ true → get_or l.marks k false ≡ true)
