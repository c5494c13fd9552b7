use Rattle.std.specs.Prelude.{◌≡◌, []}
use Rattle.clause_tests.proofs.recovering.formula.Given as goal

abbrev pub invariant-loop-clause : goal.invariant-loop-clause
invariant-loop-clause l = l.builder.unfinished ≡ []
