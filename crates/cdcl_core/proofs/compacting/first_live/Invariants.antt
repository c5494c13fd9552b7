use Rattle.std.proofs.Common.{ℕ, ◌≤◌, ◌<◌}
use Rattle.clause_arena.specs.Clauses.{IsLive}
use Rattle.cdcl_core.proofs.compacting.first_live.Given as goal

-- the first ones are gone
abbrev pub invariant-loop-place : goal.invariant-loop-place
invariant-loop-place l = (r : ℕ) → l.from ≤ r → r < l.place → IsLive l.arena r → ⊥
