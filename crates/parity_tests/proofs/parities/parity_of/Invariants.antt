use Rattle.cx_base.specs.Problem.{AreWithin}
use Rattle.parity_tests.proofs.parities.parity_of.Given as goal

abbrev pub invariant-loop-variable : goal.invariant-loop-variable
invariant-loop-variable l = AreWithin l.vars l.lits.items
