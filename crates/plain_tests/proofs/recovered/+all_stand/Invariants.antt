use Rattle.std.proofs.Common.{length}
use Rattle.plain_tests.proofs.recovered.+all_stand.Given as goal

abbrev pub decreases-all_stand : goal.decreases-all_stand
decreases-all_stand l = length l.vars.now
