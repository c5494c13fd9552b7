use Rattle.std.proofs.Common.{◌≡◌, ℕ, ◌-◌, ◌<◌, ◌≤◌, get_or}
use Rattle.gf2_matrix.proofs.renamed.rename.Given as goal

abbrev pub invariant-loop-source : goal.invariant-loop-source
invariant-loop-source l =
    ((i : ℕ) → i < l.source-index → get_or l.source-items i 0 ≡ get_or l.names (get_or l.fn.sources i 0 - 1) 0)
    × ((i : ℕ) → l.source-index ≤ i → get_or l.source-items i 0 ≡ get_or l.fn.sources i 0)
