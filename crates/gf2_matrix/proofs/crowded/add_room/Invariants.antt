use Rattle.std.proofs.Common.{◌≤◌, ◌+◌, ◌*◌, ℕ, get_or}
use Rattle.gf2_matrix.specs.declared.crowded.TheConstants.{SLACK}
use Rattle.gf2_matrix.proofs.crowded.add_room.Given as goal

abbrev pub invariant-loop-label : goal.invariant-loop-label
invariant-loop-label l = (p : ℕ) → get_or l.room p 0 ≤ SLACK + 2 * l.label-index
