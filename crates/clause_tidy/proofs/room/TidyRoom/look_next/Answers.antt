use Rattle.clause_tidy.proofs.room.TidyRoom.look_next.Goals as goal

pub look_on-requires-clause-all : goal.look_on-requires-clause-all
look_on-requires-clause-all c = c.in_ok-complete.ensures.first
