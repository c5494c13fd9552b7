use Rattle.gf2_space.specs.Kept.{AreUnowned}
use Rattle.gf2_space.proofs.making.free_of.Given as goal

abbrev pub invariant-loop-x : goal.invariant-loop-x
invariant-loop-x l = AreUnowned l.owners l.free.items l.x
