use Rattle.clause_tidy.proofs.RoomLaws.{none_due}
use Rattle.clause_tidy.proofs.room.TidyRoom.next.Goals as goal

pub returns-then-not-has_more-clause-pair : goal.returns-then-not-has_more-clause-pair
returns-then-not-has_more-clause-pair c = none_due c.args.arena.now c.next_found.new.self c.next_found.ensures.room.due c.in_default.ensures.pair c.if-not-has_more.ensures.0 c.if-not-has_more.ensures.1
