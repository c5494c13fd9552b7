use Rattle.std.proofs.Common.{◌≡◌}
use Rattle.plain_tests.specs.Settling.{both_of_each}
use Rattle.plain_tests.proofs.settled.both_of_each.Given as goal

abbrev pub invariant-loop-place : goal.invariant-loop-place
invariant-loop-place l = l.lits.items ≡ both_of_each l.place
