use Rattle.std.proofs.Common.{◌≡◌, take, filter}
use Rattle.cdcl_core.specs.Refuting.{is_told}
use Rattle.cdcl_core.proofs.refuting.told_ones.Given as goal

-- those of the first ones
abbrev pub invariant-loop-one : goal.invariant-loop-one
invariant-loop-one l = l.told.items ≡ filter is_told (take l.one-index l.resolved)
