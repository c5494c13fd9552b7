use Rattle.std.proofs.Common.{◌≡◌, take}
use Rattle.proof_rules.specs.FirstLists.{AreElsewhere, behind}
use Rattle.proof_rules.proofs.table.copy_moved.Given as goal

abbrev pub invariant-loop-place : goal.invariant-loop-place
invariant-loop-place l = record {
  same : behind l.first l.lists ≡ behind l.initial.first l.initial.lists;
  none : AreElsewhere l.first (take l.place l.moves);
}
