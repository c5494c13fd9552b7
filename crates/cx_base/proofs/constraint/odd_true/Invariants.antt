use Rattle.std.proofs.Common.{◌≡◌, drop}
use Rattle.cx_base.specs.Literals.{differ}
use Rattle.cx_base.specs.Problem.{parity_met}
use Rattle.cx_base.proofs.constraint.odd_true.Given as goal

abbrev pub invariant-loop-lit : goal.invariant-loop-lit
invariant-loop-lit l = differ l.odd (parity_met l.values (drop l.lit-index l.lits)) ≡ parity_met l.values l.lits
