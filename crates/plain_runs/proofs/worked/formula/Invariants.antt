use Rattle.std.proofs.Common.{◌≡◌, []}
use Rattle.plain_runs.proofs.worked.formula.Given as goal

abbrev pub invariant-loop-clause : goal.invariant-loop-clause
invariant-loop-clause l = l.builder.unfinished ≡ []
