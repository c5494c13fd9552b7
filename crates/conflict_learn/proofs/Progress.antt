-- How far an analysis has come: the literals kept so far, and the places still to be looked at.
use Rattle.std.specs.Prelude.{◌≡◌, ℕ, ◌<◌, List, ◌∷◌, ◌++◌, length, IsTrue, ◌⊎◌, []}
use Rattle.std.specs.List.{AllByRecursion}
use Rattle.cx_base.specs.Literals.{Literal}
use Rattle.cx_trail.specs.Sequence.{TrailState}
use Rattle.conflict_learn.specs.declared.learning.Resolved.{Resolved}
use Rattle.conflict_learn.specs.Learning.{level_at, negated_at, has_place, IsFalling, Follows}

-- none is kept yet, and a place of the current level is left
pub record IsSeeking (trail : TrailState) (places keys : List ℕ) : Type 0 where
  pub none : places ≡ []
  pub left : (q : ℕ) × IsTrue (has_place keys q) × (level_at trail q ≡ trail.level)

-- one of the current level is kept, and only lower ones are left
pub record HasFound (trail : TrailState) (places keys : List ℕ) : Type 0 where
  pub first : ℕ
  pub rest : List ℕ
  pub are : places ≡ first ∷ rest
  pub within : first < length trail.entries
  pub first_level : level_at trail first ≡ trail.level
  pub rest_levels : AllByRecursion (λ q. (0 < level_at trail q) × (level_at trail q < trail.level)) rest
  pub lower : (q : ℕ) → IsTrue (has_place keys q) → level_at trail q < trail.level

pub record Analysing (trail : TrailState) (conflict : List Literal) (holds : List Literal → ℕ → Type 0) (resolved : List Resolved) (lits : List Literal) (keys : List ℕ) : Type 0 where
  pub places : List ℕ
  pub are : lits ≡ negated_at trail places
  pub falling : IsFalling places
  pub below : (q : ℕ) → IsTrue (has_place keys q) → AllByRecursion (λ p. q < p) places
  pub within : (q : ℕ) → IsTrue (has_place keys q) → q < length trail.entries
  pub stage : IsSeeking trail places keys ⊎ HasFound trail places keys
  pub follows : Follows trail conflict holds resolved (lits ++ negated_at trail keys)
