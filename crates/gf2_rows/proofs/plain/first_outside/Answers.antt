use Rattle.std.proofs.Common.{arith, length}
use Rattle.gf2_rows.proofs.Words.{first_here, nothing_more}
use Rattle.gf2_rows.proofs.plain.first_outside.Goals as goal

pub returns-then-open-ne0 : goal.returns-then-open-ne0
returns-then-open-ne0 c =
    first_here c.args.row.now c.args.mask.now c.args.skip 0 (length c.args.row.now) c.loop-i.i c.open_bits-open.result c.from.result c.open_bits-open.ensures c.from.ensures
    (omega arith) c.open_bits-open.type_inv (omega arith) c.loop-i-test.true c.loop-i.invariant

pub loop-i-preserved : goal.loop-i-preserved
loop-i-preserved c =
    nothing_more c.args.row.now c.args.mask.now c.args.skip 0 c.loop-i.i c.open_bits-open.result c.open_bits-open.ensures c.if-open-ne0.false c.loop-i.invariant
