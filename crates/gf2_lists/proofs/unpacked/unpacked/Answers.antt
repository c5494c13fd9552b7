use Rattle.std.proofs.Common.{List, ◌+◌, sym, subst}
use Rattle.gf2_lists.specs.declared.row.ListedRow.{ListedRow}
use Rattle.gf2_lists.specs.Made.{AreListsOf}
use Rattle.gf2_lists.proofs.MadeLaws.{lists_more}
use Rattle.gf2_lists.proofs.unpacked.unpacked.Goals as goal

pub loop-row-preserved : goal.loop-row-preserved
loop-row-preserved c =
    let n = c.args.matrix.now.vars in
    let given = c.args.matrix.now.rows in
    subst (λ (r : List ListedRow). AreListsOf n given r (c.loop-row.row + 1)) (sym c.in_ok-push.ensures.items)
    (lists_more n given c.loop-row.rows.items c.loop-row.row c.in_ok-new.new c.loop-row.invariant c.in_ok-new.ensures)
