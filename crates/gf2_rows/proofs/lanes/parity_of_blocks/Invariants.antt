use Rattle.std.proofs.Common.{◌≡◌, ◌*◌, map, length}
use Rattle.cx_base.specs.Parity.{odd_sum}
use Rattle.gf2_rows.proofs.Words.{parity_of, products_upto}
use Rattle.gf2_rows.proofs.lanes.parity_of_blocks.Given as goal

abbrev pub invariant-loop-block : goal.invariant-loop-block
invariant-loop-block l = (length l.sums ≡ 8) × (odd_sum (map parity_of l.sums) ≡ products_upto l.a l.b (64 * (8 * l.block)))
