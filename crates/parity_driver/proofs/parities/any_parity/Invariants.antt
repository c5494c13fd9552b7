use Rattle.cx_base.specs.Problem.{AreWithin}
use Rattle.parity_driver.proofs.parities.any_parity.Given as goal

abbrev pub invariant-loop : goal.invariant-loop
invariant-loop l = AreWithin l.vars l.lits.items
