-- An arena without what was removed.
use Rattle.std.specs.Prelude.{ℕ, ◌≡◌, ◌<◌, List, length, Some, IsSome}
use Rattle.cx_base.specs.declared.moved.Move.{Move}
use Rattle.cx_base.specs.Moved.{moved_to}
use Rattle.clause_arena.specs.Clauses.{ArenaState, clause_at, IsLive}

-- the map from references to clauses is the old one renamed: each live clause has its new reference, no other reference
-- has one, nothing else is held, and the order stays, so that different clauses have different references
pub record IsRenamed (old new : ArenaState) (moves : List Move) : Type 0 where
  pub kept : (r : ℕ) → IsLive old r → (s : ℕ) × (moved_to moves r ≡ Some s) × (clause_at new s ≡ clause_at old r)
  pub only : (r : ℕ) → IsSome (moved_to moves r) → IsLive old r
  pub whole : (s : ℕ) → s < length new.clauses → (r : ℕ) × (moved_to moves r ≡ Some s)
  pub order : (q r s t : ℕ) → moved_to moves q ≡ Some s → moved_to moves r ≡ Some t → q < r → s < t
