use Rattle.std.proofs.Common.{◌∙◌, ap, arith, length}
use Rattle.cx_base.specs.Problem.{Problem, clauses_of}
use Rattle.cx_base.proofs.PlaceLaws.{length-clauses_of}
use Rattle.cx_base.proofs.formula.Formula.clause_count.Goals as goal

pub returns : goal.returns
returns c =
    let long = length-clauses_of _ _ _ c.self.invariant.2 ∙ ap (λ (p : Problem). length (clauses_of p.constraints)) c.self.view_is in
    omega (arith, long)
