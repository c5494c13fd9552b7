use Rattle.std.proofs.Common.{◌≡◌, take}
use Rattle.parity_engine.specs.Equations.{numbered}
use Rattle.gf2_matrix.proofs.independent.chosen_of.Given as goal

abbrev pub invariant-loop-number : goal.invariant-loop-number
invariant-loop-number l = l.chosen.items ≡ numbered l.parities (take l.number-index l.numbers)
