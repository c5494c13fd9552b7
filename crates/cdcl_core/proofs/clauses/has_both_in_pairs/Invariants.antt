use Rattle.std.proofs.Common.{◌≡◌, false, take}
use Rattle.std.specs.List.{list_any}
use Rattle.cx_base.specs.Literals.{negate}
use Rattle.cx_semantics.specs.Chain.{has_literal}
use Rattle.cdcl_core.proofs.clauses.has_both_in_pairs.Given as goal

-- none of the first ones occurs with its negation
abbrev pub invariant-loop-lit : goal.invariant-loop-lit
invariant-loop-lit l = list_any (λ m. has_literal l.lits (negate m)) (take l.lit-index l.lits) ≡ false
