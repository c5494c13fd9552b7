use Rattle.std.proofs.Common.{◌≡◌, []}
use Rattle.plain_runs.proofs.drawing.tight_formula.Given as goal

abbrev pub invariant-loop : goal.invariant-loop
invariant-loop l = l.builder.unfinished ≡ []
