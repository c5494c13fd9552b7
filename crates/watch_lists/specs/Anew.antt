-- Watches that are made anew for the clauses of an arena.
use Rattle.std.specs.Prelude.{ℕ, ◌≢◌, ◌<◌, ◌≤◌, Bool, List}
use Rattle.std.specs.List.{All, Contains}
use Rattle.cx_base.specs.Literals.{Literal, HasTwo}
use Rattle.clause_arena.specs.Clauses.{ArenaState, literals_at, IsLive}
use Rattle.watch_lists.specs.declared.lists.Side.{Side}
use Rattle.watch_lists.specs.Watching.{clause_of, partner, held_at, side_at, IsAttached, IsThird}

-- the clause is over the variables, and has two different literals
pub record IsWatchable (variables : ℕ) (lits : List Literal) : Type 0 where
  pub within : All (λ l. (1 ≤ l.variable) × (l.variable ≤ variables)) lits
  pub different : HasTwo lits

-- so it is with each clause of the arena
abbrev pub AreWatchable : ℕ → ArenaState → Type 0
AreWatchable variables a = (r : ℕ) → IsLive a r → IsWatchable variables (literals_at a r)

-- of the clauses below a place just the live ones are attached, each to be watched at two different ones of its literals
pub record AreChosenBelow (a : ArenaState) (place : ℕ) (held : List Side) (attached : List Bool) : Type 0 where
  pub only : (r : ℕ) → r < place → IsAttached attached r → IsLive a r
  pub all : (r : ℕ) → r < place → IsLive a r → IsAttached attached r
  pub inside : (n : ℕ) → clause_of n < place → IsAttached attached (clause_of n) → Contains (literals_at a (clause_of n)) (held_at held n)
  pub apart : (n : ℕ) → clause_of n < place → IsAttached attached (clause_of n) → held_at held n ≢ held_at held (partner n)
  pub thirds : (n : ℕ) → clause_of n < place → IsAttached attached (clause_of n) → IsThird (literals_at a (clause_of n)) (side_at held n) (side_at held (partner n))
