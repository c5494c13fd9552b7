use Rattle.std.specs.Prelude.{◌≡◌}
use Rattle.clause_tests.proofs.propagation.pick_of_full.Given as goal

abbrev pub invariant-loop-integer : goal.invariant-loop-integer
invariant-loop-integer l = l.trail.variables ≡ 3
