use Rattle.std.proofs.Common.{drop}
use Rattle.proof_rules.specs.VariableMarks.{AreMetOnly}
use Rattle.proof_rules.proofs.parity_sum.unmark.Given as goal

abbrev pub invariant-loop-variable : goal.invariant-loop-variable
invariant-loop-variable l = AreMetOnly l.initial.marks.items l.variables → AreMetOnly l.marks.items (drop l.variable-index l.variables)
