use Rattle.std.proofs.Common.{◌≡◌, take}
use Rattle.cx_base.specs.Problem.{parities_of}
use Rattle.cdcl_core.proofs.recovering.parities.Given as goal

-- those of the constraints before this place
abbrev pub invariant-loop-place : goal.invariant-loop-place
invariant-loop-place l = l.parities.items ≡ parities_of (take l.place l.formula.constraints)
