use Rattle.std.proofs.Common.{◌≡◌, ◌*◌, ◌≤◌, map, count_by}
use Rattle.std.specs.List.{range_with_len}
use Rattle.gf2_rows.specs.Bits.{bit_of}
use Rattle.gf2_rows.proofs.plain.fewer_ones.Given as goal

abbrev pub invariant-loop-word : goal.invariant-loop-word
invariant-loop-word l =
    (l.count ≡ count_by (λ b. b) (map (bit_of l.row) (range_with_len 0 (64 * l.word-index)))) × (l.count ≤ 64 * l.word-index)
