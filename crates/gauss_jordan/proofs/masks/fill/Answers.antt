use Rattle.std.proofs.Common.{◌-◌, ap, arith}
use Rattle.gauss_jordan.proofs.Filling.{masks_none, masks_more}
use Rattle.gauss_jordan.proofs.masks.fill.Goals as goal

pub loop-column-init : goal.loop-column-init
loop-column-init c = masks_none c.args.matrix.now.columns c.args.held.now c.args.assigned.now c.args.truths.now

pub bounds-held-column : goal.bounds-held-column
bounds-held-column c =
    let low = c.column.ensures.low in
    let high = c.column.ensures.high in
    let wide = c.requires.wide in
    omega arith

pub put-requires : goal.put-requires
put-requires c = omega (arith, c.loop-column.auto.assigned, c.requires.assigned_long, c.loop-column-test.true, c.columns-column-end.ensures.count)

pub put-requires-in-loop-column : goal.put-requires-in-loop-column
put-requires-in-loop-column c = omega (arith, c.loop-column.auto.truths, c.requires.truths_long, c.loop-column-test.true, c.columns-column-end.ensures.count)

pub loop-column-preserved : goal.loop-column-preserved
loop-column-preserved c =
    masks_more c.args.matrix.now.columns c.args.held.now c.loop-column.assigned c.loop-column.truths c.put.new.row c.put-in-loop-column.new.row c.loop-column.column (c.column.result - 1) c.is_some.result c.is_true.result
    c.loop-column.invariant c.put.ensures c.put-in-loop-column.ensures (ap (λ v. v - 1) c.column.ensures.is) c.is_some.ensures c.is_true.ensures
