use Rattle.std.proofs.Common.{◌≡◌, drop}
use Rattle.std.specs.List.{list_any}
use Rattle.proof_rules.specs.VariableMarks.{mark_at, is_odd}
use Rattle.proof_rules.proofs.parity_sum.any_left.Given as goal

abbrev pub invariant-loop-variable : goal.invariant-loop-variable
invariant-loop-variable l = list_any (λ x. is_odd (mark_at l.marks x)) (drop l.variable-index l.met) ≡ list_any (λ x. is_odd (mark_at l.marks x)) l.met
