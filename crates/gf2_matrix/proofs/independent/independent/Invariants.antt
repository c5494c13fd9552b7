use Rattle.std.proofs.Common.{◌≤◌, ◌-◌, length}
use Rattle.gf2_matrix.specs.Enough.{SayFirst}
use Rattle.gf2_matrix.proofs.independent.independent.Given as goal

abbrev pub invariant-loop-from : goal.invariant-loop-from
invariant-loop-from l = (l.from ≤ length l.parities) × SayFirst l.fn.vars l.parities l.numbers.items l.from

abbrev pub decreases-loop-from : goal.decreases-loop-from
decreases-loop-from l = length l.parities - l.from
