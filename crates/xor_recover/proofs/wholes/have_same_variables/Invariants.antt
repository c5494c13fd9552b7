use Rattle.std.proofs.Common.{◌≡◌, take}
use Rattle.xor_recover.specs.Wholes.{variables_of}
use Rattle.xor_recover.proofs.wholes.have_same_variables.Given as goal

abbrev pub invariant-loop-place : goal.invariant-loop-place
invariant-loop-place l = variables_of (take l.place l.a) ≡ variables_of (take l.place l.b)
