use Rattle.clause_tidy.proofs.RoomLaws.{waits_sorted}
use Rattle.clause_tidy.proofs.room.sort.Goals as goal

pub returns : goal.returns
returns c = waits_sorted c.args.queue.now.items c.sort_unstable_by_key.new.self.items c.sort_unstable_by_key.ensures.permutation
