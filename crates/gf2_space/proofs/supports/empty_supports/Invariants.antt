use Rattle.gf2_space.specs.Supports.{AreEmpty}
use Rattle.gf2_space.proofs.supports.empty_supports.Given as goal

abbrev pub invariant-loop : goal.invariant-loop
invariant-loop l = AreEmpty l.supports.items l.counter
