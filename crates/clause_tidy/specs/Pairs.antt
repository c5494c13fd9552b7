-- Two clauses of an arena, of which one bears on the other.
use Rattle.std.specs.Prelude.{◌≢◌, ℕ, IsTrue}
use Rattle.clause_arena.specs.Clauses.{ArenaState, IsLive, literals_at}
use Rattle.tidy_rules.specs.Relations.{bears_on}
use Rattle.clause_tidy.specs.declared.pairs.Pair.{Pair}

-- another live clause that lies inside this one, or strengthens it
abbrev pub Bears : ArenaState → ℕ → ℕ → Type 0
Bears a p q = (p ≢ q) × IsLive a p × IsTrue (bears_on (literals_at a p) (literals_at a q))

-- the whole is live, and the part bears on it
abbrev pub IsPair : ArenaState → Pair → Type 0
IsPair a pair = IsLive a pair.whole × Bears a pair.part pair.whole

-- both are live
pub record AreLive (a : ArenaState) (pair : Pair) : Type 0 where
  pub part : IsLive a pair.part
  pub whole : IsLive a pair.whole

abbrev pub NoneBearsOn : ArenaState → ℕ → Type 0
NoneBearsOn a q = (p : ℕ) → Bears a p q → ⊥

abbrev pub NoneBears : ArenaState → Type 0
NoneBears a = (q : ℕ) → IsLive a q → NoneBearsOn a q
