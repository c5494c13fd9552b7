use Rattle.std.proofs.Common.{◌≡◌, ◌≤◌, drop, length}
use Rattle.proof_trim.specs.Marking.{wants, marks_of}
use Rattle.proof_trim.specs.NameSets.{Has}
use Rattle.proof_trim.proofs.back.go_back.Given as goal

abbrev pub invariant-loop-left : goal.invariant-loop-left
invariant-loop-left l = record {
  within : l.left ≤ length l.proof;
  long : length l.marks.items ≡ length l.proof;
  marked : drop l.left l.marks.items ≡ marks_of (drop l.left l.proof);
  wanted : Has l.wanted (wants (drop l.left l.proof));
}

abbrev pub decreases-loop-left : goal.decreases-loop-left
decreases-loop-left l = l.left
