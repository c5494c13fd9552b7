use Rattle.std.proofs.Common.{◌≡◌, false}
use Rattle.text_tests.proofs.slots.told.Given as goal

abbrev pub invariant-loop-turn : goal.invariant-loop-turn
invariant-loop-turn g l = g.S.StepSource.is_spent l.source ≡ false
