use Rattle.std.proofs.Common.{◌≡◌, false, not, ◌&&◌, nat_eq, take}
use Rattle.std.specs.List.{list_any}
use Rattle.cx_semantics.specs.Chain.{is_inside}
use Rattle.cx_semantics.specs.Marked.{clause_at}
use Rattle.plain_tests.proofs.covering.others_cover.Given as goal

-- none of the first ones does
abbrev pub invariant-loop-other : goal.invariant-loop-other
invariant-loop-other l = list_any (λ k. not (nat_eq k l.id) && is_inside (clause_at l.live.clauses k) l.lits) (take l.other-index l.ids) ≡ false
