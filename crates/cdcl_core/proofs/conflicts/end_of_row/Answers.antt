use Rattle.std.proofs.Common.{length, ap, subst, sym, IfOk}
use Rattle.std.specs.List.{AllByRecursion}
use Rattle.cdcl_search.specs.Tells.{as_events, IsId}
use Rattle.cdcl_core.specs.Shortening.{EndsBy, IsShortened}
use Rattle.cdcl_core.proofs.ShortLaws.{ends_by_row}
use Rattle.cdcl_search.proofs.RowSteps.{sources_are_ids}
use Rattle.cdcl_core.proofs.conflicts.end_of_row.Goals as goal

pub last_steps-requires-clause-sources : goal.last_steps-requires-clause-sources
last_steps-requires-clause-sources c = subst (AllByRecursion IsId) (sym c.as_slice-2.ensures) (sources_are_ids (length c.args.formula.now.constraints) c.requires.sources.0 c.args.reason.now.sources c.requires.sources.1 c.requires.few.constraints_few c.requires.sources.2)

pub returns : goal.returns
returns c = ends_by_row c.last_steps.result c.args.state.now (length c.args.formula.now.constraints) c.args.reason.now c.in_ok-short.short (subst (λ ls. IsShortened c.args.state.now ls c.in_ok-short.short) c.as_slice.ensures c.in_ok-short.ensures)
    c.first_id_of_rows-id.result c.first_id_of_rows-id.ensures _ (ap as_events c.new.ensures.items) (subst (λ sources. IfOk c.last_steps.result (EndsBy (length c.args.formula.now.constraints) c.first_id_of_rows-id.result sources c.in_ok-short.short (as_events c.new.result.items))) c.as_slice-2.ensures c.last_steps.ensures)
