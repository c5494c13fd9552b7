use Rattle.std.proofs.Common.{◌*◌, ◌+◌, arith, ◌≡◌}
use Rattle.gf2_rows.proofs.Words.{sum_of_rows}
use Rattle.gf2_rows.proofs.Blocks.{added_block}
use Rattle.gf2_rows.proofs.lanes.add_blocks.Goals as goal

pub loop-block-preserved : goal.loop-block-preserved
loop-block-preserved c =
    let e : 8 * (c.loop-block.block + 1) ≡ 8 * c.loop-block.block + 8 = omega arith in
    rw e
    (added_block c.args.row.now c.args.other.now c.loop-block.row (8 * c.loop-block.block) 8 c.loop-block.auto.row c.requires.same (omega arith) c.loop-block.invariant)

pub returns : goal.returns
returns c =
    sum_of_rows c.loop-block.row c.args.row.now c.args.other.now (omega arith) c.requires.same (λ k lt. c.loop-block.invariant.0 k (omega arith))
