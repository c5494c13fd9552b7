use Rattle.std.proofs.Common.{◌*◌, ◌/◌, false, None, refl, subst}
use Rattle.gf2_matrix.specs.Bits.{Bits, IsBitOutside}
use Rattle.gf2_matrix.proofs.BitLaws.{passed_over}
use Rattle.gf2_matrix.proofs.Windows.{bit_from}
use Rattle.gf2_matrix.proofs.row_bits.RowBits.outside_near.Goals as goal

pub returns-in-None : goal.returns-in-None
returns-in-None c =
    let m = c.self.inside in
    let f = m.base / 64 in
    subst (λ (b : Bits). IsBitOutside b c.args.mask.now c.args.skip None) c.self.view_is
    (λ k free kept. bit_from (64 * f) k m.words false
    (λ le. passed_over m.words c.args.mask.now f c.len.result k c.args.skip c.skip_from.result c.len.ensures le free kept c.skip_from.ensures c.in-None.ensures) (λ below. refl))
