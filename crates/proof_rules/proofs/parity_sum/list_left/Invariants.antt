use Rattle.std.proofs.Common.{◌≡◌, ◌≤◌, ◌++◌, drop}
use Rattle.std.specs.List.{AllByRecursion}
use Rattle.proof_rules.specs.VariableMarks.{left_over}
use Rattle.proof_rules.proofs.parity_sum.list_left.Given as goal

abbrev pub invariant-loop-variable : goal.invariant-loop-variable
invariant-loop-variable l = record {
  left : l.list.items ++ left_over l.marks (drop l.variable-index l.met) ≡ l.initial.list.items ++ left_over l.marks l.met;
  positive : AllByRecursion (λ x. 1 ≤ x) l.list.items;
}
