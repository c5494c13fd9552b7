use Rattle.std.proofs.Common.{◌≡◌, ℕ, ◌*◌, ◌+◌, ◌∙◌, arith, map}
use Rattle.std.specs.Int.RustNames.{count_ones}
use Rattle.std.specs.Simd.Lanes.{chunk}
use Rattle.gf2_rows.proofs.Blocks.{ones_upto_block, ones_small, counts_added}
use Rattle.gf2_rows.proofs.Words.{ones_of_row}
use Rattle.gf2_rows.proofs.lanes.ones_of_blocks.Goals as goal

pub loop-block-preserved : goal.loop-block-preserved
loop-block-preserved c =
    let at : ℕ = 8 * c.loop-block.block in
    let e : 8 * (c.loop-block.block + 1) ≡ at + 8 = omega arith in
    let small = ones_small c.args.row.now at 8 (omega arith) (λ k. (c.type_inv.row k).fits) in
    let more = ones_upto_block c.args.row.now at 8 (omega arith) (λ k. (c.type_inv.row k).fits) in
    rw (e, counts_added 0 (map count_ones (chunk at 8 c.args.row.now)) (omega arith))
    (omega (arith, more, c.loop-block.invariant.0), omega (arith, small, c.loop-block.invariant.1))

pub returns : goal.returns
returns c = c.loop-block.invariant.0 ∙ ones_of_row c.args.row.now (8 * c.loop-block.block) (omega arith)
