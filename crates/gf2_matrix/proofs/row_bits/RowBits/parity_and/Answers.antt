use Rattle.std.proofs.Common.{◌≡◌, ◌∙◌, ◌+◌, ◌-◌, ◌/◌, ◌&&◌, length, take, drop, ap, arith}
use Rattle.std.specs.Simd.Lanes.{zip2}
use Rattle.cx_base.specs.Parity.{odd_sum}
use Rattle.gf2_rows.specs.Bits.{bits_of}
use Rattle.gf2_matrix.specs.Bits.{Bits, sum_with}
use Rattle.gf2_matrix.proofs.row_bits.RowBits.parity_and.Goals as goal

pub returns : goal.returns
returns c =
    let m = c.self.inside in
    let f = m.base / 64 in
    let long = c.len.ensures in
    let cut : f + c.len.result - f ≡ length m.words = omega arith in
    c.parity_and.ensures ∙ ap (λ n. odd_sum (zip2 ◌&&◌ (bits_of m.words) (bits_of (take n (drop f c.args.mask.now))))) cut
    ∙ ap (λ (b : Bits). sum_with b c.args.mask.now) c.self.view_is
