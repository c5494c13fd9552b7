use Rattle.std.proofs.Common.{ℕ, ◌<◌}
use Rattle.clause_tidy.specs.Pairs.{Bears}
use Rattle.clause_tidy.proofs.plain_pairs.bearing_on.Given as goal

-- none of the first ones does
abbrev pub invariant-loop-place : goal.invariant-loop-place
invariant-loop-place l = (p : ℕ) → p < l.place → Bears l.arena p l.clause → ⊥
