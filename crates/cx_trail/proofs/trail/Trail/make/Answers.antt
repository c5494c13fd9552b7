use Rattle.std.proofs.Common.{arith}
use Rattle.cx_trail.proofs.FrontLaws.{begins}
use Rattle.cx_trail.proofs.trail.Trail.make.Goals as goal

pub invariant_of-result : goal.invariant_of-result
invariant_of-result c =
    begins _ _ _ _ c.requires (omega (arith, c.in_ok-vec.ensures.len, c.in_ok-vec.field-0.ok.0)) (omega (arith, c.in_ok-vec-2.ensures.len, c.in_ok-vec-2.field-0.ok.0))
    (c.in_ok-vec-3.ensures.items_if_clones_equal (λ y e. e))
