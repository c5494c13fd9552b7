use Rattle.std.proofs.Common.{◌≡◌, true, take}
use Rattle.tidy_rules.specs.Relations.{is_inside_but}
use Rattle.tidy_rules.proofs.relations.lies_inside_but.Given as goal

-- the first ones but this one are in the other clause
abbrev pub invariant-loop-lit : goal.invariant-loop-lit
invariant-loop-lit l = is_inside_but (take l.lit-index l.clause) l.but l.other ≡ true
