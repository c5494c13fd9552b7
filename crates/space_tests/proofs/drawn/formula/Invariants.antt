use Rattle.std.proofs.Common.{◌≡◌, []}
use Rattle.space_tests.proofs.drawn.formula.Given as goal

abbrev pub invariant-loop-parity : goal.invariant-loop-parity
invariant-loop-parity l = l.builder.unfinished ≡ []
