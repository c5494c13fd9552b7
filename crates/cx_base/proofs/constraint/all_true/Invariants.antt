use Rattle.std.proofs.Common.{◌≡◌, drop}
use Rattle.cx_base.specs.Problem.{assumption_met}
use Rattle.cx_base.proofs.constraint.all_true.Given as goal

abbrev pub invariant-loop-lit : goal.invariant-loop-lit
invariant-loop-lit l = assumption_met l.values (drop l.lit-index l.lits) ≡ assumption_met l.values l.lits
