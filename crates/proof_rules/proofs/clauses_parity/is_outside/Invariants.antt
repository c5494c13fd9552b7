use Rattle.std.proofs.Common.{◌≡◌, drop, not}
use Rattle.std.specs.List.{list_any}
use Rattle.std.specs.FinSet as set
use Rattle.proof_rules.proofs.clauses_parity.is_outside.Given as goal

abbrev pub invariant-loop-lit : goal.invariant-loop-lit
invariant-loop-lit l = list_any (λ x. not (set.contains l.sum.variables x.variable)) (drop l.lit-index l.clause) ≡ list_any (λ x. not (set.contains l.sum.variables x.variable)) l.clause
