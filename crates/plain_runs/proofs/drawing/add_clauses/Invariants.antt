use Rattle.std.proofs.Common.{◌≡◌, []}
use Rattle.plain_runs.proofs.drawing.add_clauses.Given as goal

abbrev pub invariant-loop-signs : goal.invariant-loop-signs
invariant-loop-signs l = l.builder.unfinished ≡ []
