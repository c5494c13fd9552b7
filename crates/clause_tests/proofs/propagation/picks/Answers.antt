use Rattle.std.proofs.Common.{sym, subst}
use Rattle.cx_trail.specs.Sequence.{TrailState}
use Rattle.search_policy.specs.Standing.{AllStand}
use Rattle.clause_tests.proofs.propagation.picks.Goals as goal

pub pick_from_heap-requires-3 : goal.pick_from_heap-requires-3
pick_from_heap-requires-3 c = subst (λ (t : TrailState). AllStand c.pick_from_heap-2.new.self t) (sym c.if-not-decide.ensures.put)
    (c.longer_trail_stands.ensures c.pick_from_heap-2.new.self c.args.trail.now _ _ _ c.pick_from_heap-2.ensures.stand)

pub pick_from_heap-last_of_heap-requires : goal.pick_from_heap-last_of_heap-requires
pick_from_heap-last_of_heap-requires c = c.back_to.ensures.back _ c.back_to-2.ensures.back
