use Rattle.std.proofs.Common.{◌≡◌, true, take}
use Rattle.plain_tests.specs.Marking.{are_literals}
use Rattle.plain_tests.proofs.marked.are_literals.Given as goal

abbrev pub invariant-loop-integer : goal.invariant-loop-integer
invariant-loop-integer l = are_literals (take l.integer-index l.integers) ≡ true
