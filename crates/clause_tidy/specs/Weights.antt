-- How much an arena holds.
use Rattle.std.specs.Prelude.{ℕ, ◌+◌, List, [], ◌∷◌, length, Option, Some, None}
use Rattle.clause_arena.specs.Clauses.{ArenaState, Stored}

-- one for the clause, and one for each literal
abbrev pub weight_of : Option Stored → ℕ
weight_of None = 0
weight_of (Some c) = length c.literals + 1

abbrev pub weights : List (Option Stored) → ℕ
weights [] = 0
weights (o ∷ os) = weight_of o + weights os

unfoldable pub weight : ArenaState → ℕ
weight a = weights a.clauses
