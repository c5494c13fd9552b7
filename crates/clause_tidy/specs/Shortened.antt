-- A clause without one of its literals.
use Rattle.std.specs.Prelude.{◌≡◌, ◌&&◌, not, ℕ, List, [], ◌∷◌, IsTrue, IsFalse, ⊤}
use Rattle.cx_base.specs.Literals.{Literal, negate, same_literal}
use Rattle.cx_semantics.specs.Chain.{has_literal}
use Rattle.cx_semantics.specs.Fresh.{is_tautology}
use Rattle.clause_arena.specs.Clauses.{ArenaState, literals_at}
use Rattle.tidy_rules.specs.Relations.{strengthens_at}

-- no literal is in the list twice
abbrev pub AreDifferent : List Literal → Type 0
AreDifferent [] = ⊤
AreDifferent (l ∷ lits) = IsFalse (has_literal lits l) × AreDifferent lits

-- the literals of the clause but this one, each once
pub record IsWithout (clause : List Literal) (l : Literal) (shorter : List Literal) : Type 0 where
  pub has : (m : Literal) → has_literal shorter m ≡ (has_literal clause m && not (same_literal m l))
  pub once : AreDifferent shorter

-- By clause k of the arena clause r loses a literal, and these are left.
pub record Shortens (a : ArenaState) (k r : ℕ) (rest : List Literal) : Type 0 where
  pub m : Literal
  pub has_m : IsTrue (has_literal (literals_at a k) m)
  pub at : IsTrue (strengthens_at (literals_at a k) (literals_at a r) m)
  pub by_ok : IsFalse (is_tautology (literals_at a k))
  pub ok : IsFalse (is_tautology (literals_at a r))
  pub is : IsWithout (literals_at a r) (negate m) rest
