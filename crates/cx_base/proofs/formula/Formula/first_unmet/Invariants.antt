use Rattle.std.proofs.Common.{◌≡◌, drop, ◌+◌}
use Rattle.cx_base.specs.Problem.{first_unmet}
use Rattle.cx_base.proofs.formula.Formula.first_unmet.Given as goal

abbrev pub invariant-loop-place : goal.invariant-loop-place
invariant-loop-place l = first_unmet l.values (l.place + 1) (drop l.place l.self.constraints) ≡ first_unmet l.values 1 l.self.constraints
