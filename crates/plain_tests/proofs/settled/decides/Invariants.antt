use Rattle.std.proofs.Common.{◌≡◌, true}
use Rattle.plain_tests.specs.Settling.{decides}
use Rattle.plain_tests.proofs.settled.decides.Given as goal

abbrev pub invariant-loop-place : goal.invariant-loop-place
invariant-loop-place l = decides l.place l.known ≡ true
