use Rattle.std.proofs.Common.{◌≡◌, take}
use Rattle.cx_base.specs.Problem.{parities_of}
use Rattle.plain_tests.proofs.settled.parities.Given as goal

abbrev pub invariant-loop-place : goal.invariant-loop-place
invariant-loop-place l = l.lists.items ≡ take l.place (parities_of l.formula.constraints)
