use Rattle.std.proofs.Common.{◌≡◌, ℕ, ◌-◌, ◌≤◌, get_or, length}
use Rattle.gf2_matrix.proofs.span.end_of.Given as goal

abbrev pub invariant-loop-end : goal.invariant-loop-end
invariant-loop-end l = (l.low ≤ l.end) × (l.end ≤ length l.words) × ((i : ℕ) → l.end ≤ i → get_or l.words i 0 ≡ 0)

abbrev pub decreases-loop-end : goal.decreases-loop-end
decreases-loop-end l = l.end
