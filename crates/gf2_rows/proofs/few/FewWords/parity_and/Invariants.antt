use Rattle.std.proofs.Common.{◌≡◌, ◌&&◌}
use Rattle.std.specs.Simd.Lanes.{zip2}
use Rattle.cx_base.specs.Parity.{odd_sum}
use Rattle.gf2_rows.specs.Bits.{bits_of}
use Rattle.gf2_rows.specs.Few.{laid_out}
use Rattle.gf2_rows.proofs.Words.{parity_of}
use Rattle.gf2_rows.proofs.few.FewWords.parity_and.Given as goal

abbrev pub invariant-loop-i : goal.invariant-loop-i
invariant-loop-i l =
    parity_of l.sum ≡ odd_sum (zip2 ◌&&◌ (bits_of (laid_out l.self-inside.len l.i l.self-inside.places l.self-inside.words)) (bits_of l.other))
