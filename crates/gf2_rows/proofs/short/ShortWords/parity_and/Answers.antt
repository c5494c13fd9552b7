use Rattle.std.proofs.Common.{◌&&◌, ◌∙◌, length, sym, ap}
use Rattle.std.specs.Simd.Lanes.{zip2}
use Rattle.cx_base.specs.Parity.{odd_sum}
use Rattle.gf2_rows.specs.Bits.{bits_of}
use Rattle.gf2_rows.proofs.PutWords.{product-padded}
use Rattle.gf2_rows.proofs.short.ShortWords.parity_and.Goals as goal

pub returns : goal.returns
returns c =
    let s = c.self.inside in
    let other = c.args.other.now in
    c.parity_and.ensures ∙ sym (product-padded s.len s.words.now other c.self.invariant (ap length c.self.view_is ∙ c.requires))
    ∙ ap (λ l. odd_sum (zip2 ◌&&◌ (bits_of l) (bits_of other))) c.self.view_is
