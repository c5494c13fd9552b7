use Rattle.std.proofs.Common.{arith, sym, ap, ◌∙◌, [], length, is_some}
use Rattle.cdcl_search.proofs.LowIds.{has_ids, row_ids_are_ids}
use Rattle.cx_base.specs.Assumptions.{is_ending}
use Rattle.cdcl_core.proofs.ConflictLaws.{against, row_explains, row_numbers, row_is_against, row_is_known, row_is_short, ends_log, is_short}
use Rattle.cdcl_search.specs.GoingOn.{log_rests, log_stops}
use Rattle.std.proofs.lemmas.Result.{err_from_is_err_and}
use Rattle.cdcl_core.proofs.conflicts.of_row.Goals as goal

pub reason_clause-requires-clause-named : goal.reason_clause-requires-clause-named
reason_clause-requires-clause-named g c = ap is_some (against c.args.log.now.formula.now c.args.state.now (g.P.ParityEngine.state c.args.engine.now) (g.L.Sink.items c.args.log.now.sink.now) c.requires.stands c.args.row c.args.kept c.requires.row).is

pub reason_clause-requires-clause-assigned : goal.reason_clause-requires-clause-assigned
reason_clause-requires-clause-assigned g c = (against c.args.log.now.formula.now c.args.state.now (g.P.ParityEngine.state c.args.engine.now) (g.L.Sink.items c.args.log.now.sink.now) c.requires.stands c.args.row c.args.kept c.requires.row).assigned

pub reason_clause-requires-clause-kind : goal.reason_clause-requires-clause-kind
reason_clause-requires-clause-kind g c = (against c.args.log.now.formula.now c.args.state.now (g.P.ParityEngine.state c.args.engine.now) (g.L.Sink.items c.args.log.now.sink.now) c.requires.stands c.args.row c.args.kept c.requires.row).kind

pub end_of_row-requires-clause-ids : goal.end_of_row-requires-clause-ids
end_of_row-requires-clause-ids g c = has_ids c.args.log.now.formula.now c.args.state.now (g.P.ParityEngine.state c.args.engine.now) [] (g.L.Sink.items c.args.log.now.sink.now) c.requires.stands

pub end_of_row-requires-clause-few : goal.end_of_row-requires-clause-few
end_of_row-requires-clause-few g c = record {
  constraints_few = c.requires.stands.3.ids.few;
  room = row_ids_are_ids c.args.log.now.formula.now c.args.state.now (g.P.ParityEngine.state c.args.engine.now) _ [] c.requires.stands.0 c.requires.stands.3 (omega arith);
}

pub end_of_row-requires-clause-units : goal.end_of_row-requires-clause-units
end_of_row-requires-clause-units g c = c.requires.stands.3.units.few

pub end_of_row-requires-clause-known : goal.end_of_row-requires-clause-known
end_of_row-requires-clause-known g c = row_is_known c.args.log.now.formula.now c.args.state.now (g.P.ParityEngine.state c.args.engine.now) (g.L.Sink.items c.args.log.now.sink.now) c.requires.stands c.args.row c.args.kept c.requires.row c.in_ok-reason.reason c.in_ok-reason.ensures.parity c.in_ok-reason.ensures.numbers c.in_ok-reason.ensures.sum c.in_ok-reason.ensures.clause

pub end_of_row-requires-clause-short : goal.end_of_row-requires-clause-short
end_of_row-requires-clause-short g c = row_is_short c.args.log.now.formula.now c.args.state.now (g.P.ParityEngine.state c.args.engine.now) (g.L.Sink.items c.args.log.now.sink.now) c.requires.stands c.args.row c.args.kept c.requires.row c.in_ok-reason.reason c.in_ok-reason.ensures.parity c.in_ok-reason.ensures.numbers c.in_ok-reason.ensures.sum c.in_ok-reason.ensures.clause

pub end_of_row-requires-clause-sources : goal.end_of_row-requires-clause-sources
end_of_row-requires-clause-sources g c = (length (g.P.ParityEngine.state c.args.engine.now).parities, c.requires.stands.3.engine.few, row_numbers c.args.log.now.formula.now c.args.state.now (g.P.ParityEngine.state c.args.engine.now) (g.L.Sink.items c.args.log.now.sink.now) c.requires.stands c.args.row c.args.kept c.requires.row c.in_ok-reason.reason c.in_ok-reason.ensures.parity c.in_ok-reason.ensures.numbers c.in_ok-reason.ensures.sum c.in_ok-reason.ensures.clause)

pub told_row-requires-clause-explains : goal.told_row-requires-clause-explains
told_row-requires-clause-explains g c = row_explains c.args.log.now.formula.now c.args.state.now (g.P.ParityEngine.state c.args.engine.now) (g.L.Sink.items c.args.log.now.sink.now) c.requires.stands c.args.row c.args.kept c.requires.row c.in_ok-reason.reason c.in_ok-reason.ensures.parity c.in_ok-reason.ensures.numbers c.in_ok-reason.ensures.sum c.in_ok-reason.ensures.clause

pub told_row-requires-clause-goes_on : goal.told_row-requires-clause-goes_on
told_row-requires-clause-goes_on g c = ap (is_ending c.args.log.now.formula.now.constraints) (sym c.as_slice.ensures) ∙ sym c.is_ending.ensures ∙ c.if-is_ending.false

pub returns-then-is_ending : goal.returns-then-is_ending
returns-then-is_ending g c =
    let ends = ap (is_ending c.args.log.now.formula.now.constraints) (sym c.as_slice.ensures) ∙ sym c.is_ending.ensures ∙ c.if-is_ending.true in
    record {
      concludes = (
        c.requires.stands,
        ends_log c.args.log.now.formula.now c.args.state.now (g.P.ParityEngine.state c.args.engine.now) (g.L.Sink.items c.args.log.now.sink.now) c.requires.stands c.args.row c.args.kept c.requires.row c.in_ok-reason.reason c.in_ok-reason.ensures.parity c.in_ok-reason.ensures.numbers c.in_ok-reason.ensures.sum c.in_ok-reason.ensures.clause ends c.in_ok-ending.ending c.in_ok-ending.ensures,
        is_short c.args.log.now.formula.now c.args.state.now (g.P.ParityEngine.state c.args.engine.now) (g.L.Sink.items c.args.log.now.sink.now) c.requires.stands c.args.row c.args.kept c.requires.row c.in_ok-reason.reason c.in_ok-reason.ensures.parity c.in_ok-reason.ensures.numbers c.in_ok-reason.ensures.sum c.in_ok-reason.ensures.clause ends c.in_ok-ending.ending c.in_ok-ending.ensures,
      );
      log = log_rests g.L.Sink g.met.L.Sink.keeps_itself c.args.log.now;
    }

pub returns-in-Ok : goal.returns-in-Ok
returns-in-Ok g c =
    let told = c.in-Ok.ensures.told in
    let k = c.in-Ok.conflict in
    record {
      concludes = (
        c.in-Ok.ensures.stands,
        row_is_against c.args.log.now.formula.now c.args.state.now (g.P.ParityEngine.state c.args.engine.now) (g.L.Sink.items c.args.log.now.sink.now) c.requires.stands c.args.row c.args.kept c.requires.row c.in_ok-reason.reason c.in_ok-reason.ensures.parity c.in_ok-reason.ensures.numbers c.in_ok-reason.ensures.sum c.in_ok-reason.ensures.clause k.rows k.lits k.id told.lits told.id told.rows,
        told.told,
      );
      log = c.in-Ok.ensures.log;
    }

pub returns-in_err-reason : goal.returns-in_err-reason
returns-in_err-reason g c =
    let fault = err_from_is_err_and c.from_residual.result c.from_residual.ensures.1 in
    rw (fault.1, fault.2) (record { concludes = tt; log = log_stops g.L.Sink g.met.L.Sink.keeps_itself c.args.log.now })

pub returns-in_err-ending : goal.returns-in_err-ending
returns-in_err-ending g c =
    let fault = err_from_is_err_and c.from_residual-in_err-ending.result c.from_residual-in_err-ending.ensures.1 in
    rw (fault.1, fault.2) (record { concludes = tt; log = log_stops g.L.Sink g.met.L.Sink.keeps_itself c.args.log.now })

pub returns-in-Err : goal.returns-in-Err
returns-in-Err g c = record { concludes = tt; log = c.in-Err.ensures.log }
