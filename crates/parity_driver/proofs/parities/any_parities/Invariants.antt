use Rattle.std.specs.List.{AllByRecursion}
use Rattle.cx_base.specs.Problem.{AreWithin}
use Rattle.parity_driver.proofs.parities.any_parities.Given as goal

abbrev pub invariant-loop : goal.invariant-loop
invariant-loop l = AllByRecursion (AreWithin l.vars) l.lists.items
