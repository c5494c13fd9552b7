use Rattle.std.proofs.Common.{◌≡◌, take}
use Rattle.cx_semantics.specs.Chain.{negations}
use Rattle.cdcl_core.proofs.failing.negated.Given as goal

-- the negations of the first ones
abbrev pub invariant-loop-lit : goal.invariant-loop-lit
invariant-loop-lit l = l.negated.items ≡ negations (take l.lit-index l.lits)
