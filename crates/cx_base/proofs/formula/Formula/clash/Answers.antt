use Rattle.std.proofs.Common.{◌∙◌, ap}
use Rattle.cx_base.specs.Problem.{Problem}
use Rattle.cx_base.specs.Assumptions.{clashes}
use Rattle.cx_base.proofs.AssumedLaws.{clash_is_found, none_of_no_variable}
use Rattle.cx_base.proofs.formula.Formula.clash.Goals as goal

pub first_both-requires-clause-no_variable : goal.first_both-requires-clause-no_variable
first_both-requires-clause-no_variable c = none_of_no_variable _ _ _ c.self.invariant.0 c.self.invariant.3

pub returns-clause-some : goal.returns-clause-some
returns-clause-some c = clash_is_found _ _ _ c.first_both.result c.self.invariant.0 c.self.invariant.3 c.first_both.ensures ∙ ap (λ (p : Problem). clashes p.constraints) c.self.view_is
