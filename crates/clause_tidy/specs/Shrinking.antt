-- An arena of which clauses go or lose literals.
use Rattle.std.specs.Prelude.{◌≡◌, ◌+◌, ◌<◌, ◌≤◌, ℕ, length, IsTrue}
use Rattle.cx_semantics.specs.Chain.{is_inside}
use Rattle.clause_arena.specs.Clauses.{ArenaState, IsLive, literals_at}

-- Under an old reference the clause is as it was, or gone. One under a new reference lies inside one that went.
pub record Shrinks (a b : ArenaState) : Type 0 where
  pub grown : length a.clauses ≤ length b.clauses
  pub was : (q : ℕ) → q < length a.clauses → IsLive b q → IsLive a q × (literals_at b q ≡ literals_at a q)
  pub came : (q : ℕ) → length a.clauses ≤ q → IsLive b q → (r : ℕ) × IsLive a r × (IsLive b r → ⊥) × IsTrue (is_inside (literals_at b q) (literals_at a r))

-- and there is at most one new reference
abbrev pub ShrinksOnce : ArenaState → ArenaState → Type 0
ShrinksOnce a b = Shrinks a b × (length b.clauses ≤ length a.clauses + 1)
