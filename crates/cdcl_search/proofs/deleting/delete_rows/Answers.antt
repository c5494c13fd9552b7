use Rattle.std.proofs.Common.{◌∙◌, ap, sym, subst, [], arith}
use Rattle.cdcl_search.specs.Deleting.{deletions}
use Rattle.cdcl_search.specs.Ties.{SearchStands, row_ids}
use Rattle.cdcl_search.specs.Tells.{as_events, AreIdsFrom}
use Rattle.cdcl_search.proofs.LowIds.{row_ids_are_ids}
use Rattle.cdcl_search.proofs.Tellings.{holds_where}
use Rattle.cdcl_search.proofs.RowSteps.{left_now}
use Rattle.cdcl_search.proofs.DeletedRows.{rows_deleted}
use Rattle.cdcl_search.proofs.deleting.delete_rows.Goals as goal

pub tell_steps-requires-clause-right : goal.tell_steps-requires-clause-right
tell_steps-requires-clause-right g c = left_now _ c.args.state.now (g.P.ParityEngine.state c.args.engine.now) _ _
    (rows_deleted c.args.log.now.formula.now c.args.state.now (g.P.ParityEngine.state c.args.engine.now) c.args.rows.now _ c.requires.stands c.requires.few (as_events c.in_ok-steps.steps.items) (c.in_ok-steps.ensures.are ∙ ap (λ n. deletions (row_ids c.args.state.now.next n)) c.len.ensures))

pub returns : goal.returns
returns g c =
    let stands = holds_where (λ formula told. SearchStands formula c.args.state.now (g.P.ParityEngine.state c.args.engine.now) [] told) (as_events c.in_ok-steps.steps.items) g.L.Sink c.args.log.now _ c.tell_steps.result c.tell_steps.new.log c.tell_steps.ensures.log c.tell_steps.ensures.told
    (rows_deleted c.args.log.now.formula.now c.args.state.now (g.P.ParityEngine.state c.args.engine.now) c.args.rows.now _ c.requires.stands c.requires.few (as_events c.in_ok-steps.steps.items) (c.in_ok-steps.ensures.are ∙ ap (λ n. deletions (row_ids c.args.state.now.next n)) c.len.ensures)) in
    record { stands = stands; log = c.tell_steps.ensures.log }

pub deletions_of_rows-requires : goal.deletions_of_rows-requires
deletions_of_rows-requires g c = subst (AreIdsFrom c.args.state.now.next) (sym c.len.ensures)
    (row_ids_are_ids c.args.log.now.formula.now c.args.state.now (g.P.ParityEngine.state c.args.engine.now) c.args.state.now.next c.args.rows.now c.requires.stands.0 c.requires.stands.3 (omega arith))
