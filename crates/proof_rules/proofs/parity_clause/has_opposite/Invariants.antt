use Rattle.std.proofs.Common.{◌≡◌, drop}
use Rattle.std.specs.List.{list_any}
use Rattle.cx_base.specs.Literals.{negate}
use Rattle.cx_semantics.specs.Chain.{has_literal}
use Rattle.proof_rules.proofs.parity_clause.has_opposite.Given as goal

abbrev pub invariant-loop-lit : goal.invariant-loop-lit
invariant-loop-lit l = list_any (λ x. has_literal l.set (negate x)) (drop l.lit-index l.lits) ≡ list_any (λ x. has_literal l.set (negate x)) l.lits
