use Rattle.std.proofs.Common.{◌≡◌, drop}
use Rattle.cx_base.specs.Literals.{differ}
use Rattle.cx_base.specs.Problem.{parity_met}
use Rattle.plain_tests.proofs.settled.is_met.Given as goal

abbrev pub invariant-loop-lit : goal.invariant-loop-lit
invariant-loop-lit l = differ l.odd (parity_met l.values (drop l.lit-index l.parity)) ≡ parity_met l.values l.parity
