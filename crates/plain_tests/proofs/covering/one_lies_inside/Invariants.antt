use Rattle.std.proofs.Common.{◌≡◌, false, take}
use Rattle.cx_semantics.specs.Chain.{is_inside}
use Rattle.plain_tests.specs.Marking.{some_under}
use Rattle.plain_tests.proofs.covering.one_lies_inside.Given as goal

-- none of the first ones does
abbrev pub invariant-loop-id : goal.invariant-loop-id
invariant-loop-id l = some_under l.live.clauses (λ clause. is_inside clause l.lits) (take l.id-index l.ids) ≡ false
