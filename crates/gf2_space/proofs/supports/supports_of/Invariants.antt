use Rattle.gf2_space.specs.Supports.{AreSupports}
use Rattle.gf2_space.proofs.supports.supports_of.Given as goal

abbrev pub invariant-loop-x : goal.invariant-loop-x
invariant-loop-x l = AreSupports l.rows l.owners l.supports.items l.x
