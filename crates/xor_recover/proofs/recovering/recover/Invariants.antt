use Rattle.std.proofs.Common.{◌≤◌, ◌+◌, ◌-◌, ◌++◌, length}
use Rattle.cx_base.specs.Problem.{clauses_of}
use Rattle.xor_recover.specs.Wholes.{starts_of_all}
use Rattle.xor_recover.proofs.Runs.{RunsDone}
use Rattle.xor_recover.proofs.Walk.{rest_of}
use Rattle.xor_recover.proofs.recovering.recover.Given as goal

abbrev pub invariant-loop-at : goal.invariant-loop-at
invariant-loop-at l = record {
  done : RunsDone (clauses_of l.formula.constraints) (l.starts.items ++ starts_of_all l.wholes.items) (rest_of l.starts.items l.wholes.items l.at l.whole) l.finds.items;
  starts : l.at ≤ length l.starts.items;
  wholes : l.whole ≤ length l.wholes.items;
}

abbrev pub decreases-loop-at : goal.decreases-loop-at
decreases-loop-at l = (length l.starts.items - l.at) + (length l.wholes.items - l.whole)
