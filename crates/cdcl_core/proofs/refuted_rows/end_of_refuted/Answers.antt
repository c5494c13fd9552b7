use Rattle.std.proofs.Common.{◌≡◌, arith, sym, ap, ◌∙◌, subst, ◌+◌, ◌++◌, length, length-append, IfOk}
use Rattle.std.specs.List.{AllByRecursion}
use Rattle.cx_base.proofs.Elements.{all_append}
use Rattle.cdcl_search.specs.Tells.{as_events, IsId, IsTellable}
use Rattle.cdcl_search.specs.Ties.{first_row_id}
use Rattle.cdcl_search.proofs.RowSteps.{sources_are_ids}
use Rattle.cdcl_core.specs.Shortening.{EndsBy, IsShortened, late_unit_events, late_units_from}
use Rattle.cdcl_core.proofs.LateSteps.{ends_by_units, late_count, late_ids, parted_count, told_ids}
use Rattle.cdcl_core.proofs.refuted_rows.end_of_refuted.Goals as goal

pub push_late_units-requires-clause-texts : goal.push_late_units-requires-clause-texts
push_late_units-requires-clause-texts c = subst (AllByRecursion IsTellable) (sym c.new-steps.ensures.items) tt

pub push_late_units-requires-clause-ids : goal.push_late_units-requires-clause-ids
push_late_units-requires-clause-ids c =
    let short = c.in_ok-short.short in
    let count = parted_count c.as_slice.result.now short.left short.units.items c.in_ok-short.ensures.parts in
    let clause : length c.as_slice.result.now ≡ length c.args.reason.now.clause = ap length c.as_slice.ensures in
    let lits : length c.as_slice-lits.result.now ≡ length short.left = ap length c.as_slice-lits.ensures in
    let few = c.requires.short in
    let is = c.first_id_of_rows.ensures in
    let next = c.requires.room.0 in
    let rows = c.requires.room.1 in
    (omega (arith, is), omega (arith, is, next, rows, count, clause, lits, few))

pub last_steps-requires-clause-texts : goal.last_steps-requires-clause-texts
last_steps-requires-clause-texts c = c.in_ok-push_late_units.ensures.steps.texts

pub last_steps-requires-clause-id : goal.last_steps-requires-clause-id
last_steps-requires-clause-id c =
    let short = c.in_ok-short.short in
    let count = parted_count c.as_slice.result.now short.left short.units.items c.in_ok-short.ensures.parts in
    let clause : length c.as_slice.result.now ≡ length c.args.reason.now.clause = ap length c.as_slice.ensures in
    let lits : length c.as_slice-lits.result.now ≡ length short.left = ap length c.as_slice-lits.ensures in
    let few = c.requires.short in
    let is = c.first_id_of_rows.ensures in
    let next = c.requires.room.0 in
    let rows = c.requires.room.1 in
    (omega (arith, is), omega (arith, is, next, rows, count, clause, lits, few))

pub last_steps-requires-clause-sources : goal.last_steps-requires-clause-sources
last_steps-requires-clause-sources c = subst (AllByRecursion IsId) (sym c.as_slice-2.ensures) (sources_are_ids (length c.args.formula.now.constraints) c.requires.sources.0 c.args.reason.now.sources c.requires.sources.1 c.requires.constraints c.requires.sources.2)

pub last_steps-requires-clause-units : goal.last_steps-requires-clause-units
last_steps-requires-clause-units c =
    let short = c.in_ok-short.short in
    let first = c.first_id_of_rows.result + c.args.rows in
    let count = parted_count c.as_slice.result.now short.left short.units.items c.in_ok-short.ensures.parts in
    let clause : length c.as_slice.result.now ≡ length c.args.reason.now.clause = ap length c.as_slice.ensures in
    let lits : length c.as_slice-lits.result.now ≡ length short.left = ap length c.as_slice-lits.ensures in
    let few = c.requires.short in
    let is = c.first_id_of_rows.ensures in
    let next = c.requires.room.0 in
    let rows = c.requires.room.1 in
    subst (AllByRecursion (λ u. IsId u.id)) (sym c.in_ok-push_late_units.ensures.units) (all_append (λ u. IsId u.id) short.units.items (late_units_from first c.as_slice-lits.result.now) (told_ids c.args.state.now c.requires.ids.units short.units.items c.in_ok-short.ensures.told)
    (late_ids first c.as_slice-lits.result.now (omega (arith, is), omega (arith, is, next, rows, count, clause, lits, few))))

pub last_steps-requires-clause-ids : goal.last_steps-requires-clause-ids
last_steps-requires-clause-ids c =
    let short = c.in_ok-short.short in
    let first = c.first_id_of_rows.result + c.args.rows in
    let count = parted_count c.as_slice.result.now short.left short.units.items c.in_ok-short.ensures.parts in
    let clause : length c.as_slice.result.now ≡ length c.args.reason.now.clause = ap length c.as_slice.ensures in
    let lits : length c.as_slice-lits.result.now ≡ length short.left = ap length c.as_slice-lits.ensures in
    let late = late_count first c.as_slice-lits.result.now in
    let all : length c.push_late_units.new.units.items ≡ length short.units.items + length (late_units_from first c.as_slice-lits.result.now) = ap length c.in_ok-push_late_units.ensures.units ∙ length-append short.units.items (late_units_from first c.as_slice-lits.result.now) in
    let few = c.requires.short in
    let constraints = c.requires.constraints in
    (omega arith, omega (arith, count, clause, lits, late, all, few, constraints))

pub returns : goal.returns
returns c =
    let short = c.in_ok-short.short in
    let f : c.first_id_of_rows.result + c.args.rows ≡ first_row_id c.args.state.now.next + c.args.rows = ap (λ n. n + c.args.rows) c.first_id_of_rows.ensures in
    let lits = c.as_slice-lits.ensures in
    let left : length c.as_slice-lits.result.now ≡ length short.left = ap length lits in
    ends_by_units c.last_steps.result c.args.state.now (length c.args.formula.now.constraints) c.args.rows c.args.reason.now short (subst (λ ls. IsShortened c.args.state.now ls short) c.as_slice.ensures c.in_ok-short.ensures) c.args.hints.now
    (record { left = c.from_vec.result; units = c.push_late_units.new.units }) (c.in_ok-push_late_units.ensures.units ∙ (λ i. short.units.items ++ late_units_from (f i) (lits i)))
    (c.from_vec.ensures ∙ c.new.ensures.items) (c.first_id_of_rows.result + c.args.rows + length c.as_slice-lits.result.now) (omega (arith, f, left))
    (as_events c.push_late_units.new.steps.items) (c.in_ok-push_late_units.ensures.steps.are ∙ (λ i. as_events (c.new-steps.ensures.items i) ++ late_unit_events c.args.hints.now (late_units_from (f i) (lits i))))
    (subst (λ sources. IfOk c.last_steps.result (EndsBy (length c.args.formula.now.constraints) (c.first_id_of_rows.result + c.args.rows + length c.as_slice-lits.result.now) sources (record { left = c.from_vec.result; units = c.push_late_units.new.units }) (as_events c.push_late_units.new.steps.items))) c.as_slice-2.ensures c.last_steps.ensures)
