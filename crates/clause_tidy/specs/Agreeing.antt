-- When the clauses of an arena are those of a log.
use Rattle.std.specs.Prelude.{◌≡◌, ◌≤◌, ℕ, List, Some, None}
use Rattle.cx_base.specs.Literals.{Literal, HasTwo}
use Rattle.cx_base.specs.Problem.{Problem, AreWithin}
use Rattle.cx_semantics.specs.Tables.{Table, get}
pub use Rattle.tidy_rules.specs.Hints.{IsNamedBy}
use Rattle.clause_arena.specs.Clauses.{ArenaState, IsLive, literals_at, id_at}

-- Each clause of the arena is the log's live clause of its id, each under an id of its own, and each live clause with two different literals is one of them. The spare id is that of no live clause.
pub record Agrees (spare : ℕ) (table : Table) (arena : ArenaState) : Type 0 where
  pub stored : (r : ℕ) → IsLive arena r → IsNamedBy table (literals_at arena r) (id_at arena r)
  pub apart : (r q : ℕ) → IsLive arena r → IsLive arena q → id_at arena r ≡ id_at arena q → r ≡ q
  pub held : (n : ℕ) (clause : List Literal) → get table n ≡ Some clause → HasTwo clause → (r : ℕ) × IsLive arena r × (id_at arena r ≡ n)
  pub free : get table spare ≡ None

-- an id that a step of a log can have
abbrev pub IsStepId : ℕ → Type 0
IsStepId n = (1 ≤ n) × (n ≤ 9223372036854775807)

-- the variables of the arena's clauses are the formula's, and a log can have their ids
pub record AreProper (formula : Problem) (arena : ArenaState) : Type 0 where
  pub variables : (r : ℕ) → IsLive arena r → AreWithin formula.variables (literals_at arena r)
  pub ids : (r : ℕ) → IsLive arena r → IsStepId (id_at arena r)
