use Rattle.std.proofs.Common.{◌≡◌, []}
use Rattle.tidy_tests.proofs.logs.formula_of.Given as goal

abbrev pub invariant-loop-place : goal.invariant-loop-place
invariant-loop-place l = l.builder.unfinished ≡ []
