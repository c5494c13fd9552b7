use Rattle.std.proofs.Common.{◌≡◌, true, take}
use Rattle.cx_base.specs.Literals.{Literal}
use Rattle.cx_semantics.specs.Chain.{has_literal, negations}
use Rattle.cx_semantics.specs.Fresh.{NotReached, others}
use Rattle.plain_tests.proofs.fresh.is_fresh.Given as goal

-- each of the first ones is reached
abbrev pub invariant-loop-lit : goal.invariant-loop-lit
invariant-loop-lit l = (m : Literal) → has_literal (take l.lit-index l.lits) m ≡ true → ¬ NotReached l.live.clauses (negations (others l.lits m)) m
