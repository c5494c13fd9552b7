use Rattle.std.proofs.Common.{ℕ, ◌<◌}
use Rattle.clause_arena.specs.Clauses.{IsLive}
use Rattle.clause_tidy.specs.Pairs.{NoneBearsOn}
use Rattle.clause_tidy.proofs.plain_pairs.untidy_pair.Given as goal

-- nothing bears on the first ones
abbrev pub invariant-loop-place : goal.invariant-loop-place
invariant-loop-place l = (q : ℕ) → q < l.place → IsLive l.arena q → NoneBearsOn l.arena q
