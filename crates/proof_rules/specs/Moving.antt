-- Ids that are moved in a map, in two passes: each old id goes out, then each content comes in.
use Rattle.std.specs.Prelude.{Bool, false, not, ◌||◌, List, [], ◌∷◌, map, Option}
use Rattle.std.specs.List.{list_any}
use Rattle.std.specs.Ordering.{nat_cmp}
use Rattle.std.specs.FinMap as map_
use Rattle.cx_base.specs.declared.id_moves.IdMove.{IdMove}
use Rattle.cx_semantics.specs.declared.cause.Cause.TheVariants.{NotLive, IdInUse}
use Rattle.cx_semantics.specs.Judging.{Rule, refused_where}
use Rattle.cx_semantics.specs.Moves.{old_ids, new_ids, names_twice, without_ids, put_if}

module _ {V : Type 0} where
  -- what is under the old ids, in order
  abbrev pub values_for : map_.FinMap nat_cmp V → List IdMove → List (Option V)
  values_for contents moves = map (λ m. map_.get contents m.from) moves

  -- nothing is under some old id when its turn comes
  abbrev pub meets_none : map_.FinMap nat_cmp V → List IdMove → Bool
  meets_none contents [] = false
  meets_none contents (m ∷ moves) = not (map_.contains_key contents m.from) || meets_none (map_.remove contents m.from) moves

  -- something is under some new id when its turn comes
  abbrev pub meets_some : map_.FinMap nat_cmp V → map_.FinMap nat_cmp V → List IdMove → Bool
  meets_some first contents [] = false
  meets_some first contents (m ∷ moves) = map_.contains_key contents m.to || meets_some first (put_if contents m.to (map_.get first m.from)) moves

  -- the rules of a move, over any values
  abbrev pub moving_in : map_.FinMap nat_cmp V → List IdMove → List Rule
  moving_in contents moves =
      refused_where NotLive (list_any (λ n. not (map_.contains_key contents n)) (old_ids moves) || names_twice (old_ids moves))
      ∷ refused_where IdInUse (list_any (map_.contains_key (without_ids contents (old_ids moves))) (new_ids moves) || names_twice (new_ids moves))
      ∷ []
