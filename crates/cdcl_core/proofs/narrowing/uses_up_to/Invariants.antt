use Rattle.std.proofs.Common.{◌≡◌, drop}
use Rattle.cdcl_core.specs.Narrowing.{uses_up_to}
use Rattle.cdcl_core.proofs.narrowing.uses_up_to.Given as goal

abbrev pub invariant-loop-place : goal.invariant-loop-place
invariant-loop-place l = uses_up_to l.last (drop l.place l.formula.constraints) ≡ uses_up_to l.last l.formula.constraints
