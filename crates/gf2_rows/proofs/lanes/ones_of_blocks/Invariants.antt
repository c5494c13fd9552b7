use Rattle.std.proofs.Common.{◌≡◌, ◌*◌, ◌≤◌, map, count_by}
use Rattle.std.specs.List.{range_with_len}
use Rattle.gf2_rows.specs.Bits.{bit_of}
use Rattle.gf2_rows.proofs.lanes.ones_of_blocks.Given as goal

abbrev pub invariant-loop-block : goal.invariant-loop-block
invariant-loop-block l =
    (l.total ≡ count_by (λ b. b) (map (bit_of l.row) (range_with_len 0 (64 * (8 * l.block))))) × (l.total ≤ 64 * (8 * l.block))
