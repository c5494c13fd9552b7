use Rattle.std.proofs.Common.{◌≡◌, drop}
use Rattle.cx_base.specs.Assumptions.{is_ending}
use Rattle.cx_base.specs.Integers.{literals}
use Rattle.cx_base.proofs.formula.Formula.is_ending_integers.Given as goal

abbrev pub invariant-loop-integer : goal.invariant-loop-integer
invariant-loop-integer l = is_ending l.self.constraints (literals (drop l.integer-index l.integers)) ≡ is_ending l.self.constraints (literals l.integers)
