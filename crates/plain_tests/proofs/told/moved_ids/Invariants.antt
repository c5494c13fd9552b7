use Rattle.std.proofs.Common.{◌≡◌, map, take}
use Rattle.cx_semantics.specs.Moves.{moved_id}
use Rattle.plain_tests.proofs.told.moved_ids.Given as goal

abbrev pub invariant-loop-id : goal.invariant-loop-id
invariant-loop-id l = l.moved.items ≡ map (moved_id l.moves) (take l.id-index l.ids)
