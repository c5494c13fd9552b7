use Rattle.gf2_space.proofs.Filling.{OwnersSoFar}
use Rattle.gf2_space.proofs.making.owners_of.Given as goal

abbrev pub invariant-loop-r : goal.invariant-loop-r
invariant-loop-r l = OwnersSoFar l.rows l.owners.items l.r
