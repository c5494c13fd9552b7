use Rattle.std.proofs.Common.{◌≡◌, [], take}
use Rattle.cdcl_core.proofs.narrowing.narrowed.Given as goal

-- the first constraints are in the builder
abbrev pub invariant-loop-place : goal.invariant-loop-place
invariant-loop-place l = l.builder ≡ record { constraints = take l.place l.formula.constraints; unfinished = [] }
