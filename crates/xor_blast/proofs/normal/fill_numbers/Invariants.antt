use Rattle.std.proofs.Common.{◌≡◌, map, take}
use Rattle.xor_blast.proofs.normal.fill_numbers.Given as goal

abbrev pub invariant-loop-lit : goal.invariant-loop-lit
invariant-loop-lit l = l.numbers.items ≡ map (λ m. m.variable) (take l.lit-index l.lits)
