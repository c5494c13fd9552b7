use Rattle.std.proofs.Common.{◌≡◌, drop}
use Rattle.cx_base.specs.Problem.{clause_met}
use Rattle.cx_base.proofs.constraint.any_true.Given as goal

abbrev pub invariant-loop-lit : goal.invariant-loop-lit
invariant-loop-lit l = clause_met l.values (drop l.lit-index l.lits) ≡ clause_met l.values l.lits
