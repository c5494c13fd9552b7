use Rattle.std.proofs.Common.{refl, rules, sym, subst}
use Rattle.std.proofs.lemmas.Result.{err_from_is_err_and}
use Rattle.cdcl_search.specs.GoingOn.{log_stops}
use Rattle.cdcl_search.specs.Ties.{SearchStands}
use Rattle.cdcl_search.proofs.RowReasons.{made_explains, made_has_it, made_is_antecedent}
use Rattle.cdcl_search.proofs.EndingClauses.{not_ending}
use Rattle.cdcl_search.proofs.source.hinted_row.Goals as goal

pub tell_row_reason-requires-clause-explains : goal.tell_row_reason-requires-clause-explains
tell_row_reason-requires-clause-explains g c = made_explains c.args.state.now.trail (g.P.ParityEngine.state c.args.engine.now) c.args.literal c.args.row c.requires.reason c.in_ok-made.made c.in_ok-made.ensures

pub tell_row_reason-requires-clause-goes_on : goal.tell_row_reason-requires-clause-goes_on
tell_row_reason-requires-clause-goes_on g c = not_ending c.args.log.now.formula.now.constraints c.in_ok-made.made.clause c.args.literal
    (made_has_it c.args.state.now.trail (g.P.ParityEngine.state c.args.engine.now) c.args.literal c.args.row c.requires.reason c.in_ok-made.made c.in_ok-made.ensures) c.requires.apart

pub returns-clause-clause : goal.returns-clause-clause
returns-clause-clause g c = record {
  implied = made_is_antecedent c.args.state.now.trail (g.P.ParityEngine.state c.args.engine.now) c.args.literal c.args.row c.requires.reason c.in_ok-made.made c.in_ok-made.ensures
      c.requires.ready.stands.3.trail.follows.sound;
  next = search rules;
  id = c.next_ids-id.ensures.proper.1;
}

pub returns-clause-stands_on : goal.returns-clause-stands_on
returns-clause-stands_on g c =
    let stands = subst (λ rows. SearchStands c.tell_row_reason.new.log.formula.now c.args.state.now (g.P.ParityEngine.state c.args.engine.now) rows (g.L.Sink.items c.tell_row_reason.new.log.sink.now)) (sym c.in_ok-tell_row_reason.ensures.rows) c.in_ok-tell_row_reason.ensures.stands_on.stands in
    record { stands = stands; log = c.in_ok-tell_row_reason.ensures.stands_on.log }

pub returns-in_err-tell_row_reason : goal.returns-in_err-tell_row_reason
returns-in_err-tell_row_reason g c =
    let fault = err_from_is_err_and c.from_residual-in_err-tell_row_reason.result c.from_residual-in_err-tell_row_reason.ensures.1 in
    rw (fault.1, fault.2) (record { clause = tt; same = c.in_err-tell_row_reason.ensures.same; rows = tt; stands_on = record { stands = tt; log = c.in_err-tell_row_reason.ensures.stands_on.log } })

pub returns-in_err-made : goal.returns-in_err-made
returns-in_err-made g c =
    let fault = err_from_is_err_and c.from_residual.result c.from_residual.ensures.1 in
    rw (fault.1, fault.2) (record { clause = tt; same = refl; rows = tt; stands_on = record { stands = tt; log = log_stops g.L.Sink g.met.L.Sink.keeps_itself c.args.log.now } })
