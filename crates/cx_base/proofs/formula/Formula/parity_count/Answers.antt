use Rattle.std.proofs.Common.{◌∙◌, ap, arith, length}
use Rattle.cx_base.specs.Problem.{Problem, parities_of}
use Rattle.cx_base.proofs.PlaceLaws.{length-parities_of}
use Rattle.cx_base.proofs.formula.Formula.parity_count.Goals as goal

pub returns : goal.returns
returns c =
    let long = length-parities_of _ _ _ c.self.invariant.2 ∙ ap (λ (p : Problem). length (parities_of p.constraints)) c.self.view_is in
    omega (arith, long)
