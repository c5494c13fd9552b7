use Rattle.rup_engine.proofs.EnterLaws.{turned_past, turned_put}
use Rattle.rup_engine.proofs.enter.put_behind.Goals as goal
use Rattle.rup_engine.proofs.enter.put_behind.Goals.{then-not-is_one_of+in_ok-push-3, else-not-is_one_of}

pub loop-lit-preserved : goal.loop-lit-preserved
loop-lit-preserved c =
    let lits = c.args.lits.now in
    let n = c.loop-lit.lit-index in
    let m = c.lit-item.result in
    elim c.if-not-is_one_of.branch [
      | then-not-is_one_of+in_ok-push-3 w ↦ rw w.row-is (turned_put c.args.first c.args.second lits c.loop-lit.row.items _ n m c.loop-lit-test.true c.lit-item.is w.in_ok-push-3.ensures.items c.loop-lit.invariant)
      | else-not-is_one_of w ↦ rw w.row-is (turned_past c.args.first c.args.second lits c.loop-lit.row.items n m c.lit-item.is (c.is_one_of.ensures w.if-not-is_one_of.false) c.loop-lit.invariant)
    ]
