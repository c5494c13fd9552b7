use Rattle.std.proofs.Common.{◌/◌, ◌*◌, ◌∙◌, length}
use Rattle.gf2_rows.proofs.Words.{differ-beq, products_in_two}
use Rattle.gf2_rows.proofs.lanes.parity_in_blocks.Goals as goal

pub returns : goal.returns
returns c =
    let a = c.split_at.ensures in
    let b = c.split_at-2.ensures in
    let first = rw (a.front, b.front) at c.parity_of_blocks.ensures in
    let rest = rw (a.back, b.back) at c.parity_and.ensures in
    differ-beq c.parity_of_blocks.result c.parity_and.result ∙ rw (first, rest) (products_in_two (length c.args.a.now / 8 * 8) c.args.a.now c.args.b.now c.requires)
