use Rattle.std.proofs.Common.{◌≡◌, take}
use Rattle.cx_base.specs.Assumptions.{assumptions_of}
use Rattle.search_policy.proofs.assumptions.assumed_literals.Given as goal

-- those of the constraints before this place
abbrev pub invariant-loop-place : goal.invariant-loop-place
invariant-loop-place l = l.lits.items ≡ assumptions_of (take l.place l.formula.constraints)
