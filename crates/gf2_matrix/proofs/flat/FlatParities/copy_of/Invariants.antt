use Rattle.std.proofs.Common.{◌≡◌, length, take}
use Rattle.std.specs.Prelude.{sum}
use Rattle.gf2_matrix.specs.Cutting.{cut}
use Rattle.gf2_matrix.proofs.flat.FlatParities.copy_of.Given as goal

abbrev pub invariant-loop-parity : goal.invariant-loop-parity
invariant-loop-parity l = record {
  whole : sum l.lengths.items ≡ length l.lits.items;
  copied : cut l.lits.items l.lengths.items ≡ take l.parity-index l.parities;
}
