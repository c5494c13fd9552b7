-- Watches of clauses that have new references.
use Rattle.std.specs.Prelude.{ℕ, ◌+◌, ◌*◌, ◌≡◌, ◌<◌, ◌≤◌, Bool, false, List, length, get_or, Some}
use Rattle.cx_base.specs.declared.moved.Move.{Move}
use Rattle.cx_base.specs.Moved.{moved_to}
use Rattle.watch_lists.specs.declared.lists.Side.{Side}
use Rattle.watch_lists.specs.Watching.{side_at, IsAttached, WatchState}

-- no reference rises, and the order stays: so each clause can take its new place before the next one is looked at
pub record AreLowered (moves : List Move) : Type 0 where
  pub lower : (r s : ℕ) → moved_to moves r ≡ Some s → s ≤ r
  pub order : (q r s t : ℕ) → moved_to moves q ≡ Some s → moved_to moves r ≡ Some t → q < r → s < t

-- the sides of clause s are those that r had
abbrev pub HasWatchesOf : List Side → List Side → ℕ → ℕ → Type 0
HasWatchesOf held new_held r s = (side : ℕ) → side < 2 → side_at new_held (2 * s + side) ≡ side_at held (2 * r + side)

-- the attached clauses that have a new reference are attached under it, at the same literals, and no others are
pub record AreRenamed (moves : List Move) (old new : WatchState) : Type 0 where
  pub variables : new.variables ≡ old.variables
  pub looked : new.looked ≡ old.looked
  pub held_count : length new.held ≡ length old.held
  pub count : length new.attached ≡ length old.attached
  pub kept : (r s : ℕ) → moved_to moves r ≡ Some s → IsAttached old.attached r → IsAttached new.attached s × HasWatchesOf old.held new.held r s
  pub only : (s : ℕ) → IsAttached new.attached s → (r : ℕ) × (moved_to moves r ≡ Some s) × IsAttached old.attached r

-- so it is with the clauses below a place, and from there on all is as before
pub record AreRenamedBelow (moves : List Move) (place : ℕ) (held : List Side) (attached : List Bool) (new_held : List Side) (new_attached : List Bool) : Type 0 where
  pub held_count : length new_held ≡ length held
  pub count : length new_attached ≡ length attached
  pub kept : (r s : ℕ) → r < place → moved_to moves r ≡ Some s → IsAttached attached r → IsAttached new_attached s × HasWatchesOf held new_held r s
  pub only : (s : ℕ) → s < place → IsAttached new_attached s → (r : ℕ) × (r < place) × (moved_to moves r ≡ Some s) × IsAttached attached r
  pub flags : (r : ℕ) → place ≤ r → get_or new_attached r false ≡ get_or attached r false
  pub sides : (n : ℕ) → 2 * place ≤ n → side_at new_held n ≡ side_at held n
