-- Clauses that were tidy before.
use Rattle.std.specs.Prelude.{ℕ, ◌<◌}
use Rattle.clause_arena.specs.Clauses.{ArenaState, IsLive, literals_at}
use Rattle.tidy_rules.specs.Tidied.{TidiedBy}

-- the arena's clauses of references below this one are tidy
abbrev pub TidiedBelow : ArenaState → ℕ → Type 0
TidiedBelow a below = TidiedBy (λ q. (q < below) × IsLive a q) (literals_at a)
