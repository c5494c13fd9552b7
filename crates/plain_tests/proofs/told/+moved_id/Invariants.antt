use Rattle.std.proofs.Common.{length}
use Rattle.plain_tests.proofs.told.+moved_id.Given as goal

abbrev pub decreases-moved_id : goal.decreases-moved_id
decreases-moved_id l = length l.moves.now
