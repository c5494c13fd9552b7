use Rattle.std.proofs.Common.{◌≡◌, true, take}
use Rattle.plain_tests.specs.Marking.{have_literals}
use Rattle.plain_tests.proofs.marked.have_literals.Given as goal

abbrev pub invariant-loop-event : goal.invariant-loop-event
invariant-loop-event l = have_literals (take l.event-index l.events) ≡ true
