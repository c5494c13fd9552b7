use Rattle.std.proofs.Common.{◌≡◌}
use Rattle.parity_engine.specs.Equations.{numbers_from}
use Rattle.gauss_jordan.specs.Slots.{first_bits}
use Rattle.gauss_jordan.proofs.slot.source_list.Given as goal

abbrev pub invariant-loop-k : goal.invariant-loop-k
invariant-loop-k l = l.numbers.items ≡ numbers_from 1 (first_bits l.k l.words)
