use Rattle.clause_tidy.proofs.RoomLaws.{waits_on}
use Rattle.clause_tidy.proofs.room.wait.Goals as goal

pub returns-clause-kept : goal.returns-clause-kept
returns-clause-kept c = λ place p w. waits_on c.args.queue.now.items c.push.new.self.items _ c.in_ok-push.ensures.items place p w
