use Rattle.std.proofs.Common.{◌≡◌, false, take}
use Rattle.plain_tests.specs.Marking.{some_under, is_part_of}
use Rattle.plain_tests.proofs.covering.is_part_under.Given as goal

-- they are a part of none of the first ones
abbrev pub invariant-loop-id : goal.invariant-loop-id
invariant-loop-id l = some_under l.live.clauses (is_part_of l.lits) (take l.id-index l.ids) ≡ false
