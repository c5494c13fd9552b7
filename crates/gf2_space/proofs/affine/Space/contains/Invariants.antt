use Rattle.std.proofs.Common.{◌≡◌, take, true}
use Rattle.std.specs.List.{list_all}
use Rattle.cx_base.specs.Problem.{parity_met}
use Rattle.gf2_space.proofs.affine.Space.contains.Given as goal

-- the values meet the parities before this one
abbrev pub invariant-loop-parity : goal.invariant-loop-parity
invariant-loop-parity l = list_all (parity_met l.values) (take l.parity-index l.self.parities) ≡ true
