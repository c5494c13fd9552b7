use Rattle.std.proofs.Common.{◌-◌, length}
use Rattle.plain_tests.proofs.originals.+tell.Given as goal

abbrev pub decreases-tell : goal.decreases-tell
decreases-tell l = length l.formula.now.constraints - l.place
