-- Clauses that come under other ids.
use Rattle.std.specs.Prelude.{ℕ, ◌≡◌, true, false, List, length, nat_eq, Some, None}
use Rattle.std.specs.List.{list_any}
use Rattle.std.specs.Ordering.{nat_cmp}
use Rattle.std.specs.FinMap as map
use Rattle.cx_base.specs.declared.id_moves.IdMove.{IdMove}
use Rattle.cx_semantics.specs.Moves.{old_ids, new_ids, names_twice, moved_id}
use Rattle.clause_arena.specs.Clauses.{ArenaState, IsLive, id_at, literals_at}

-- No id is named twice, and nothing is under a new id once the old ones are out. An old id may have nothing.
abbrev pub AreApart : {V : Type 0} → map.FinMap nat_cmp V → List IdMove → Type 0
AreApart contents moves =
    (names_twice (old_ids moves) ≡ false) × (names_twice (new_ids moves) ≡ false)
    × ((n : ℕ) → list_any (nat_eq n) (new_ids moves) ≡ true → list_any (nat_eq n) (old_ids moves) ≡ false → map.get contents n ≡ None)

-- both have the same clauses, each under the new id of its own
pub record HaveMovedIds (moves : List IdMove) (old new : ArenaState) : Type 0 where
  pub count : length new.clauses ≡ length old.clauses
  pub were_live : (r : ℕ) → IsLive new r → IsLive old r
  pub stay_live : (r : ℕ) → IsLive old r → IsLive new r
  pub literals : (r : ℕ) → literals_at new r ≡ literals_at old r
  pub ids : (r : ℕ) → IsLive old r → id_at new r ≡ moved_id moves (id_at old r)

-- references of live clauses by their ids
pub record AreNamed (a : ArenaState) (refs : map.FinMap nat_cmp ℕ) : Type 0 where
  pub ids : (r : ℕ) → IsLive a r → map.get refs (id_at a r) ≡ Some r
  pub named : (n r : ℕ) → map.get refs n ≡ Some r → IsLive a r × (id_at a r ≡ n)
