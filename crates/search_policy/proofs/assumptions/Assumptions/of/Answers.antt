use Rattle.std.proofs.Common.{refl, sym, subst}
use Rattle.cx_base.specs.Problem.{AreWithin}
use Rattle.cx_base.specs.Assumptions.{assumptions_of}
use Rattle.search_policy.proofs.AssumingLaws.{begun_keeps, assumptions_are_within}
use Rattle.search_policy.proofs.assumptions.Assumptions.of.Goals as goal

pub returns : goal.returns
returns c t variables level =
    let constraints = c.args.formula.now.constraints in
    begun_keeps constraints _ t c.in_ok-assumed_literals.ensures
    (subst (AreWithin t.variables) (sym c.in_ok-assumed_literals.ensures) (subst (λ n. AreWithin n (assumptions_of constraints)) (sym variables) (assumptions_are_within c.args.formula.now.variables constraints c.vars-vars.ensures.within.1))) refl refl refl level
