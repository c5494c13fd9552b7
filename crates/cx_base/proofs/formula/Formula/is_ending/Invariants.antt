use Rattle.std.proofs.Common.{◌≡◌, drop}
use Rattle.cx_base.specs.Assumptions.{is_ending}
use Rattle.cx_base.proofs.formula.Formula.is_ending.Given as goal

abbrev pub invariant-loop-lit : goal.invariant-loop-lit
invariant-loop-lit l = is_ending l.self.constraints (drop l.lit-index l.lits) ≡ is_ending l.self.constraints l.lits
