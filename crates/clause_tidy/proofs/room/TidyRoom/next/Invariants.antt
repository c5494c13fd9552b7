use Rattle.clause_tidy.specs.Rooms.{IsRoomFor, looks_to_come}
use Rattle.clause_tidy.proofs.room.TidyRoom.next.Given as goal

abbrev pub invariant-loop-pair : goal.invariant-loop-pair
invariant-loop-pair l = IsRoomFor l.arena l.self

abbrev pub decreases-loop-pair : goal.decreases-loop-pair
decreases-loop-pair l = looks_to_come l.self
