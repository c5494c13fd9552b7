use Rattle.std.proofs.Common.{◌≡◌, true, take}
use Rattle.cx_semantics.specs.Chain.{is_inside}
use Rattle.tidy_rules.proofs.relations.lies_inside.Given as goal

-- the first ones are in the other clause
abbrev pub invariant-loop-lit : goal.invariant-loop-lit
invariant-loop-lit l = is_inside (take l.lit-index l.clause) l.other ≡ true
