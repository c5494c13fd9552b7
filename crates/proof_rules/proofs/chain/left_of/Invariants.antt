use Rattle.std.proofs.Common.{◌≡◌, take}
use Rattle.cx_semantics.specs.Chain.{left, count_left}
use Rattle.proof_rules.specs.Ends.{left_seen}
use Rattle.proof_rules.proofs.chain.left_of.Given as goal

abbrev pub invariant-loop-lit : goal.invariant-loop-lit
invariant-loop-lit l = left_seen l.found ≡ count_left (left l.assumed (take l.lit-index l.clause))
