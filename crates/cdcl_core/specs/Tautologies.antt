-- The formula's tautologies in an arena.
use Rattle.std.specs.Prelude.{◌≡◌, ℕ, ◌<◌, ◌≤◌, List, length, IsTrue, IsFalse}
use Rattle.cx_base.specs.Literals.{Literal}
use Rattle.cx_base.specs.Problem.{Problem, AreWithin, clauses_of}
use Rattle.cx_semantics.specs.Fresh.{is_tautology}
use Rattle.clause_arena.specs.Clauses.{ArenaState, IsLive, clause_at, id_at, literals_at}
use Rattle.cdcl_core.specs.Filling.{IsTakenAt, clause_number}

-- The formula's tautologies up to this number are in the arena as well, each under its number, and none of those after it is. The clauses that were there are.
pub record IsAdded (formula : Problem) (n : ℕ) (old new : ArenaState) : Type 0 where
  pub kept : (r : ℕ) → IsLive old r → clause_at new r ≡ clause_at old r
  pub stored : (r : ℕ) → IsLive new r → IsTakenAt formula (length (clauses_of formula.constraints)) new r
  pub apart : (r q : ℕ) → IsLive new r → IsLive new q → id_at new r ≡ id_at new q → r ≡ q
  pub added : (k : ℕ) → 1 ≤ k → k ≤ n → IsTrue (is_tautology (clause_number formula k)) → (r : ℕ) × IsLive new r × (id_at new r ≡ k)
  pub within : (r : ℕ) → IsLive new r → AreWithin formula.variables (literals_at new r)
  pub clear : (r : ℕ) → IsLive new r → n < id_at new r → IsFalse (is_tautology (literals_at new r))

-- these are the literals of the formula's clause of this number, over its variables
pub record IsNumbered (formula : Problem) (n : ℕ) (lits : List Literal) : Type 0 where
  pub low : 1 ≤ n
  pub high : n ≤ length (clauses_of formula.constraints)
  pub is : clause_number formula n ≡ lits
  pub within : AreWithin formula.variables lits
