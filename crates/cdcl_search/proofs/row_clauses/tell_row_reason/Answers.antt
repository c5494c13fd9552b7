use Rattle.std.proofs.Common.{refl, arith, ap, is_some, ◌++◌, ◌∷◌, [], sym, ◌∙◌, subst}
use Rattle.std.proofs.lemmas.Option.{same_Some}
use Rattle.parity_engine.specs.Written.{IsWritten}
use Rattle.cdcl_search.specs.Ties.{SearchStands}
use Rattle.std.proofs.lemmas.Result.{err_from_is_err_and}
use Rattle.cdcl_search.specs.RowClauses.{parity_of, reason_of, row_clause_events}
use Rattle.cdcl_search.proofs.LowIds.{next_is_id, row_ids_are_ids, variables_are_few}
use Rattle.cdcl_search.proofs.RowSteps.{are_tellable, left_now, sources_are, stands_then}
use Rattle.cdcl_search.proofs.Tellings.{holds_told}
use Rattle.cdcl_search.proofs.row_clauses.tell_row_reason.Goals as goal

pub next_ids-ids-requires-clause-few : goal.next_ids-ids-requires-clause-few
next_ids-ids-requires-clause-few g c = record {
  constraints_few = c.requires.stands.3.ids.few;
  room = row_ids_are_ids c.args.log.now.formula.now c.args.state.now (g.P.ParityEngine.state c.args.engine.now) _ c.args.rows.now c.requires.stands.0 c.requires.stands.3 (omega arith);
}

pub next_ids-ids-requires-clause-next : goal.next_ids-ids-requires-clause-next
next_ids-ids-requires-clause-next g c = next_is_id c.args.log.now.formula.now c.args.state.now (g.P.ParityEngine.state c.args.engine.now) _ c.args.rows.now c.requires.stands.0 c.requires.stands.3

pub tell_row_clause-requires-clause-named : goal.tell_row_clause-requires-clause-named
tell_row_clause-requires-clause-named g c = ap is_some c.requires.explains.is

pub tell_row_clause-requires-clause-written : goal.tell_row_clause-requires-clause-written
tell_row_clause-requires-clause-written g c n is =
    subst (λ k. IsWritten k.form (parity_of c.args.made.now)) (same_Some c.requires.explains.named n (sym c.requires.explains.is ∙ is)) c.requires.explains.written

pub tell_row_clause-requires-clause-proper : goal.tell_row_clause-requires-clause-proper
tell_row_clause-requires-clause-proper g c = c.next_ids-ids.ensures.proper

pub tell_row_clause-requires-clause-sources : goal.tell_row_clause-requires-clause-sources
tell_row_clause-requires-clause-sources g c = sources_are c.args.log.now.formula.now c.args.state.now (g.P.ParityEngine.state c.args.engine.now) c.args.rows.now (g.L.Sink.items c.args.log.now.sink.now) c.requires.stands
    (reason_of (g.P.ParityEngine.state c.args.engine.now) c.args.made.now) c.requires.explains.explains

pub tell_row_clause-requires-clause-events : goal.tell_row_clause-requires-clause-events
tell_row_clause-requires-clause-events g c = are_tellable c.args.log.now.formula.now c.args.state.now (g.P.ParityEngine.state c.args.engine.now) c.args.rows.now (g.L.Sink.items c.args.log.now.sink.now) c.requires.stands
    (reason_of (g.P.ParityEngine.state c.args.engine.now) c.args.made.now) c.requires.explains.explains c.requires.goes_on c.requires.room c.next_ids-ids.result c.next_ids-ids.ensures

pub tell_row_clause-requires-clause-right : goal.tell_row_clause-requires-clause-right
tell_row_clause-requires-clause-right g c = left_now c.args.log.now.formula.now c.args.state.now (g.P.ParityEngine.state c.args.engine.now) _ _ (stands_then c.args.log.now.formula.now c.args.state.now (g.P.ParityEngine.state c.args.engine.now) c.args.rows.now (g.L.Sink.items c.args.log.now.sink.now) c.requires.stands
    (reason_of (g.P.ParityEngine.state c.args.engine.now) c.args.made.now) c.requires.explains.explains c.requires.goes_on c.requires.room c.next_ids-ids.result c.next_ids-ids.ensures _ refl)

pub push-requires : goal.push-requires
push-requires g c =
    let few = variables_are_few c.args.log.now.formula.now c.args.state.now (g.P.ParityEngine.state c.args.engine.now) _ c.args.rows.now c.requires.stands.0 c.requires.stands.3 in
    let room = c.requires.room in
    omega (arith, few, room)

pub returns-clause-stands_on : goal.returns-clause-stands_on
returns-clause-stands_on g c =
    let e = g.P.ParityEngine.state c.args.engine.now in
    let stands = holds_told (λ formula told. SearchStands formula c.args.state.now e (c.args.rows.now ++ c.args.made.now.clause ∷ []) told) (row_clause_events c.next_ids-ids.result e c.args.made.now) g.L.Sink c.args.log.now _ c.tell_row_clause.new.log c.tell_row_clause.ensures.log c.in_ok-tell_row_clause.ensures.told
    (stands_then c.args.log.now.formula.now c.args.state.now e c.args.rows.now (g.L.Sink.items c.args.log.now.sink.now) c.requires.stands
    (reason_of e c.args.made.now) c.requires.explains.explains c.requires.goes_on c.requires.room c.next_ids-ids.result c.next_ids-ids.ensures _ refl) in
    record { stands = stands; log = c.in_ok-tell_row_clause.ensures.log }

pub returns-in_err-tell_row_clause : goal.returns-in_err-tell_row_clause
returns-in_err-tell_row_clause g c =
    let fault = err_from_is_err_and c.from_residual.result c.from_residual.ensures.1 in
    rw (fault.1, fault.2) (record { same = refl; rows = tt; stands_on = record { stands = tt; log = c.in_err-tell_row_clause.ensures.log } })
