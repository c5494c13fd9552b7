use Rattle.std.proofs.Common.{◌≡◌, drop, option_map}
use Rattle.cx_base.specs.Literals.{differ}
use Rattle.proof_rules.specs.Assignments.{forced_sum}
use Rattle.proof_rules.proofs.parity_clause.sum_outside.Given as goal

abbrev pub invariant-loop-variable : goal.invariant-loop-variable
invariant-loop-variable l = option_map (differ l.sum) (forced_sum l.clause (drop l.variable-index l.variables)) ≡ forced_sum l.clause l.variables
