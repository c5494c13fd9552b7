use Rattle.std.specs.List.{AllByRecursion}
use Rattle.cx_base.specs.Problem.{AreWithin}
use Rattle.parity_tests.proofs.parities.parities_of.Given as goal

abbrev pub invariant-loop-parity : goal.invariant-loop-parity
invariant-loop-parity l = AllByRecursion (AreWithin l.vars) l.lists.items
