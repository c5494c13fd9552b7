use Rattle.std.proofs.Common.{◌≡◌, map, take}
use Rattle.cx_base.specs.Literals.{positive_of}
use Rattle.gauss_incremental.proofs.shorts.positives.Given as goal

abbrev pub invariant-loop-lit : goal.invariant-loop-lit
invariant-loop-lit l = l.all.items ≡ map (λ m. positive_of m.variable) (take l.lit-index l.lits)
