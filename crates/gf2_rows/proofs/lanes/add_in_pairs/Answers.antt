use Rattle.std.proofs.Common.{◌*◌, ◌+◌, ◌-◌, arith, ◌≡◌, length}
use Rattle.gf2_rows.proofs.Words.{sum_of_rows}
use Rattle.gf2_rows.proofs.Blocks.{added_block, added_last}
use Rattle.gf2_rows.proofs.lanes.add_in_pairs.Goals as goal

pub loop-pair-preserved : goal.loop-pair-preserved
loop-pair-preserved c =
    let e : 2 * (c.loop-pair.pair + 1) ≡ 2 * c.loop-pair.pair + 2 = omega arith in
    rw e
    (added_block c.args.row.now c.args.other.now c.loop-pair.row (2 * c.loop-pair.pair) 2 c.loop-pair.auto.row c.requires (omega arith) c.loop-pair.invariant)

pub returns-then-row-eq1 : goal.returns-then-row-eq1
returns-then-row-eq1 c =
    let odd = c.if-row-eq1.true in
    let same = c.loop-pair.auto.row in
    let t = c.loop-pair-test.false in
    added_last c.args.row.now c.args.other.now c.loop-pair.row (length c.loop-pair.row - 1) (2 * c.loop-pair.pair) (omega arith) (omega arith) same c.requires c.loop-pair.invariant

pub returns-else-row-eq1 : goal.returns-else-row-eq1
returns-else-row-eq1 c =
    let even = c.if-row-eq1.false in
    let same = c.loop-pair.auto.row in
    let t = c.loop-pair-test.false in
    sum_of_rows c.loop-pair.row c.args.row.now c.args.other.now same c.requires (λ k lt. c.loop-pair.invariant.0 k (omega arith))
