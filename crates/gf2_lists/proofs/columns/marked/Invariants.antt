use Rattle.gf2_lists.specs.Occurring.{AreMarked}
use Rattle.gf2_lists.proofs.columns.marked.Given as goal

abbrev pub invariant-loop-x : goal.invariant-loop-x
invariant-loop-x l = AreMarked l.marks l.columns.items l.x
