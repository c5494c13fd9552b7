use Rattle.std.proofs.Common.{◌≡◌, ◌≤◌, drop, length}
use Rattle.cx_base.specs.Numbers.{AreStepIntegers}
use Rattle.search_steps.specs.Hints.{hints_from}
use Rattle.cdcl_core.proofs.learning.hints_of_resolved.Given as goal

abbrev pub invariant-loop-left : goal.invariant-loop-left
invariant-loop-left l = record {
  left : l.left ≤ length l.resolved;
  hints : l.hints.items ≡ hints_from (drop l.left l.resolved);
  integers : AreStepIntegers l.hints.items;
}

abbrev pub decreases-loop-left : goal.decreases-loop-left
decreases-loop-left l = l.left
