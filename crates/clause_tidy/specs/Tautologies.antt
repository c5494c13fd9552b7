-- An arena from which tautologies go.
use Rattle.std.specs.Prelude.{◌≡◌, ℕ, length, IsFalse}
use Rattle.cx_semantics.specs.Fresh.{is_tautology}
use Rattle.clause_arena.specs.Clauses.{ArenaState, clause_at, IsLive, literals_at}

-- what is left was there
pub record IsLeft (a b : ArenaState) : Type 0 where
  pub same : (q : ℕ) → IsLive b q → clause_at b q ≡ clause_at a q
  pub size : length b.clauses ≡ length a.clauses

-- a clause that is left is no tautology
abbrev pub IsFreeAt : ArenaState → ℕ → Type 0
IsFreeAt a r = IsLive a r → IsFalse (is_tautology (literals_at a r))
