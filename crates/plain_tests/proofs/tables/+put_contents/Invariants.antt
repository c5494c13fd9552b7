use Rattle.std.proofs.Common.{length}
use Rattle.plain_tests.proofs.tables.+put_contents.Given as goal

abbrev pub decreases-put_contents : goal.decreases-put_contents
decreases-put_contents l = length l.moves.now
