use Rattle.std.proofs.Common.{◌≡◌, length}
use Rattle.clause_tidy.specs.Rooms.{IsRoomFor, looks_to_come}
use Rattle.clause_tidy.proofs.room.TidyRoom.next_found.Given as goal

abbrev pub invariant-loop-self : goal.invariant-loop-self
invariant-loop-self l = record {
  room : IsRoomFor l.arena l.self;
  looks : looks_to_come l.self ≡ looks_to_come l.fn.self;
}

abbrev pub decreases-loop-self : goal.decreases-loop-self
decreases-loop-self l = length l.self.found.items
