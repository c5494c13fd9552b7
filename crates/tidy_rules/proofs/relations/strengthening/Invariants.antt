use Rattle.std.proofs.Common.{◌≡◌, false, take}
use Rattle.std.specs.List.{list_any}
use Rattle.tidy_rules.specs.Relations.{strengthens_at}
use Rattle.tidy_rules.proofs.relations.strengthening.Given as goal

-- at none of the first ones
abbrev pub invariant-loop-lit : goal.invariant-loop-lit
invariant-loop-lit l = list_any (strengthens_at l.clause l.other) (take l.lit-index l.clause) ≡ false
