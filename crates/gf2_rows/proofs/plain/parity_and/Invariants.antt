use Rattle.std.proofs.Common.{◌≡◌, ◌*◌, ◌&&◌, map}
use Rattle.std.specs.List.{range_with_len}
use Rattle.cx_base.specs.Parity.{odd_sum}
use Rattle.gf2_rows.specs.Bits.{bit_of}
use Rattle.gf2_rows.proofs.Words.{parity_of}
use Rattle.gf2_rows.proofs.plain.parity_and.Given as goal

abbrev pub invariant-loop-i : goal.invariant-loop-i
invariant-loop-i l = parity_of l.sum ≡ odd_sum (map (λ k. bit_of l.a k && bit_of l.b k) (range_with_len 0 (64 * l.i)))
