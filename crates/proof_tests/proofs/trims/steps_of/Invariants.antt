use Rattle.std.proofs.Common.{◌≡◌, false}
use Rattle.proof_tests.proofs.trims.steps_of.Given as goal

abbrev pub invariant-loop : goal.invariant-loop
invariant-loop g l = g.S.StepSource.is_spent l.source ≡ false
