use Rattle.std.proofs.Common.{rules}
use Rattle.std.specs.FinMap as map
use Rattle.fratx_elab.proofs.OwnLaws.{each_itself-empty}
use Rattle.fratx_elab.proofs.own_ids.OwnIds.new.Goals as goal

pub invariant_of-result : goal.invariant_of-result
invariant_of-result c = rw c.new.ensures (λ n g. grind (map.gets, rules))

pub returns : goal.returns
returns c = rw (c.new.ensures, each_itself-empty _)
