use Rattle.std.proofs.Common.{◌≡◌, false, take}
use Rattle.cx_semantics.specs.Chain.{has_literal}
use Rattle.tidy_rules.proofs.relations.has.Given as goal

-- it is not among the first ones
abbrev pub invariant-loop-other : goal.invariant-loop-other
invariant-loop-other l = has_literal (take l.other-index l.lits) l.lit ≡ false
