-- Ids that are moved, all at once.
use Rattle.std.specs.Prelude.{ℕ, Bool, true, false, ◌||◌, List, [], ◌∷◌, map, fold, nat_eq, Option, Some, None}
use Rattle.std.specs.List.{list_any}
use Rattle.std.specs.Ordering.{nat_cmp}
use Rattle.std.specs.FinMap as map_
use Rattle.cx_base.specs.declared.id_moves.IdMove.{IdMove}

-- the old ids and the new ones, in order
abbrev pub old_ids : List IdMove → List ℕ
old_ids moves = map (λ m. m.from) moves

abbrev pub new_ids : List IdMove → List ℕ
new_ids moves = map (λ m. m.to) moves

-- some id is named twice
abbrev pub names_twice : List ℕ → Bool
names_twice [] = false
names_twice (n ∷ ns) = list_any (nat_eq n) ns || names_twice ns

-- the new id of n, which keeps its own where no move is of it
abbrev pub moved_id : List IdMove → ℕ → ℕ
moved_id [] n = n
moved_id (m ∷ moves) n = elim (nat_eq n m.from) [ true ↦ m.to | false ↦ moved_id moves n ]

module _ {V : Type 0} where
  -- what is under the ids is taken out
  abbrev pub without_ids : map_.FinMap nat_cmp V → List ℕ → map_.FinMap nat_cmp V
  without_ids contents ids = fold map_.remove contents ids

  -- something is put under this id, if there is something
  abbrev pub put_if : map_.FinMap nat_cmp V → ℕ → Option V → map_.FinMap nat_cmp V
  put_if contents n (Some v) = map_.insert contents n v
  put_if contents n None = contents

  -- what the first map has under each old id comes under the new one in the second
  abbrev pub put_moved : map_.FinMap nat_cmp V → map_.FinMap nat_cmp V → List IdMove → map_.FinMap nat_cmp V
  put_moved first contents [] = contents
  put_moved first contents (m ∷ moves) = put_moved first (put_if contents m.to (map_.get first m.from)) moves

  -- all old ids are taken out, and then each content is put under its new id
  abbrev pub moved : map_.FinMap nat_cmp V → List IdMove → map_.FinMap nat_cmp V
  moved contents moves = put_moved contents (without_ids contents (old_ids moves)) moves
