use Rattle.std.proofs.Common.{List, ◌≡◌, [], ◌+◌, ◌∙◌, sym, subst, get_or}
use Rattle.std.proofs.lemmas.List.{get_or_default}
use Rattle.gf2_lists.specs.declared.row.ListedRow.{ListedRow}
use Rattle.gf2_lists.specs.Made.{AreRowsOf}
use Rattle.gf2_lists.proofs.MadeLaws.{rows_more}
use Rattle.gf2_lists.proofs.making.rows_of.Goals as goal

pub loop-parity-preserved : goal.loop-parity-preserved
loop-parity-preserved c =
    let parities = c.args.parities.now in
    let i = c.loop-parity.parity-index in
    let here : c.as_slice.result.now ≡ get_or parities i [] = c.as_slice.ensures ∙ c.parity-item.is ∙ get_or_default parities i c.parity-item.result [] c.loop-parity-test.true in
    subst (λ (r : List ListedRow). AreRowsOf parities r (i + 1)) (sym c.in_ok-push.ensures.items)
    (rows_more parities c.loop-parity.rows.items i c.in_ok-new.new c.as_slice.result.now c.loop-parity.invariant here c.in_ok-new.ensures)
