-- References of clauses that have new numbers.
use Rattle.std.specs.Prelude.{ℕ, ◌<◌, ◌==◌, cond, List, [], ◌∷◌, length, get_or, Option, None, Some}
use Rattle.cx_base.specs.declared.moved.Move.{Move}

-- the new reference of r
abbrev pub moved_to : List Move → ℕ → Option ℕ
moved_to [] r = None
moved_to (m ∷ moves) r = cond (m.old == r) (Some m.new) (moved_to moves r)

abbrev pub move_at : List Move → ℕ → Move
move_at moves i = get_or moves i (record { old = 0; new = 0 })

-- the old references rise
pub record IsRising (moves : List Move) : Type 0 where
  pub rises : (i j : ℕ) → i < j → j < length moves → (move_at moves i).old < (move_at moves j).old
