use Rattle.std.proofs.Common.{refl, sym, ap, ◌∙◌, subst, ◌++◌, ◌∷◌, [], Some, inl, length, length-append, rules, arith}
use Rattle.std.proofs.lemmas.Result.{err_from_is_err_and}
use Rattle.cdcl_search.specs.GoingOn.{log_stops}
use Rattle.conflict_learn.specs.Learning.{AreHeld, IsAntecedent}
use Rattle.cx_base.specs.Problem.{Problem}
use Rattle.cdcl_search.specs.Ties.{SearchStands}
use Rattle.cdcl_core.specs.Refuting.{IsFirst, IsHeldBeside}
use Rattle.cdcl_search.proofs.RowReasons.{is_named, all_assigned, gives_literal, is_antecedent}
use Rattle.cdcl_core.proofs.BesideLaws.{antecedent_is_plain, held_grows, is_the_row, reason_explains, row_beside, row_implied, row_reason, the_row, told_grows, told_is_antecedent, told_is_sourced}
use Rattle.cdcl_core.proofs.level_zero.ZeroSource.told_clause.Goals as goal

pub reason_clause-requires-clause-named : goal.reason_clause-requires-clause-named
reason_clause-requires-clause-named g c = is_named c.args.self.now.state.now.trail (g.P.ParityEngine.state c.args.self.now.engine.now) c.args.literal c.args.row (row_implied c.args.self.now.state.now (g.P.ParityEngine.state c.args.self.now.engine.now) c.requires.ready.stands.3.reasons c.requires.implied.0 c.requires.implied.1.late c.requires.implied.1.within c.args.literal c.requires.implied.1.is c.args.row c.requires.implied.1.reason)

pub reason_clause-requires-clause-assigned : goal.reason_clause-requires-clause-assigned
reason_clause-requires-clause-assigned g c = all_assigned c.args.self.now.state.now.trail (g.P.ParityEngine.state c.args.self.now.engine.now) c.args.literal c.args.row (row_implied c.args.self.now.state.now (g.P.ParityEngine.state c.args.self.now.engine.now) c.requires.ready.stands.3.reasons c.requires.implied.0 c.requires.implied.1.late c.requires.implied.1.within c.args.literal c.requires.implied.1.is c.args.row c.requires.implied.1.reason)

pub reason_clause-requires-clause-kind : goal.reason_clause-requires-clause-kind
reason_clause-requires-clause-kind g c = gives_literal c.args.self.now.state.now.trail (g.P.ParityEngine.state c.args.self.now.engine.now) c.args.literal c.args.row (row_implied c.args.self.now.state.now (g.P.ParityEngine.state c.args.self.now.engine.now) c.requires.ready.stands.3.reasons c.requires.implied.0 c.requires.implied.1.late c.requires.implied.1.within c.args.literal c.requires.implied.1.is c.args.row c.requires.implied.1.reason)

pub going_on-requires-clause-reason : goal.going_on-requires-clause-reason
going_on-requires-clause-reason g c = ((the_row c.args.self.now.state.now (g.P.ParityEngine.state c.args.self.now.engine.now) c.requires.ready.stands.3.reasons c.requires.implied.0 c.requires.implied.1.late c.requires.implied.1.within c.args.literal c.requires.implied.1.is c.args.row c.requires.implied.1.reason c.in_ok-reason.reason c.in_ok-reason.ensures.parity c.in_ok-reason.ensures.numbers c.in_ok-reason.ensures.sum c.in_ok-reason.ensures.clause).form, row_reason c.args.self.now.state.now (g.P.ParityEngine.state c.args.self.now.engine.now) c.requires.ready.stands.3.reasons c.requires.implied.0 c.requires.implied.1.late c.requires.implied.1.within c.args.literal c.requires.implied.1.is c.args.row c.requires.implied.1.reason c.in_ok-reason.reason c.in_ok-reason.ensures.parity c.in_ok-reason.ensures.numbers c.in_ok-reason.ensures.sum c.in_ok-reason.ensures.clause)

pub going_on-requires-clause-beside : goal.going_on-requires-clause-beside
going_on-requires-clause-beside g c =
    let sound = c.requires.ready.stands.3.trail.follows.sound in
    row_beside c.args.self.now.log.now.formula.now.constraints c.args.self.now.state.now (g.P.ParityEngine.state c.args.self.now.engine.now) sound c.args.self.now.first.now c.requires.ready.first c.args.literal c.requires.implied.0 c.requires.implied.1.late c.requires.implied.1.within c.requires.implied.1.is
    c.args.row c.requires.implied.1.reason (the_row c.args.self.now.state.now (g.P.ParityEngine.state c.args.self.now.engine.now) c.requires.ready.stands.3.reasons c.requires.implied.0 c.requires.implied.1.late c.requires.implied.1.within c.args.literal c.requires.implied.1.is c.args.row c.requires.implied.1.reason c.in_ok-reason.reason c.in_ok-reason.ensures.parity c.in_ok-reason.ensures.numbers c.in_ok-reason.ensures.sum c.in_ok-reason.ensures.clause) (is_the_row c.args.self.now.state.now (g.P.ParityEngine.state c.args.self.now.engine.now) c.requires.ready.stands.3.reasons c.requires.implied.0 c.requires.implied.1.late c.requires.implied.1.within c.args.literal c.requires.implied.1.is c.args.row c.requires.implied.1.reason c.in_ok-reason.reason c.in_ok-reason.ensures.parity c.in_ok-reason.ensures.numbers c.in_ok-reason.ensures.sum c.in_ok-reason.ensures.clause) c.in_ok-reason.reason (row_reason c.args.self.now.state.now (g.P.ParityEngine.state c.args.self.now.engine.now) c.requires.ready.stands.3.reasons c.requires.implied.0 c.requires.implied.1.late c.requires.implied.1.within c.args.literal c.requires.implied.1.is c.args.row c.requires.implied.1.reason c.in_ok-reason.reason c.in_ok-reason.ensures.parity c.in_ok-reason.ensures.numbers c.in_ok-reason.ensures.sum c.in_ok-reason.ensures.clause)
    (is_antecedent c.args.self.now.state.now.trail (g.P.ParityEngine.state c.args.self.now.engine.now) c.args.literal c.args.row (row_implied c.args.self.now.state.now (g.P.ParityEngine.state c.args.self.now.engine.now) c.requires.ready.stands.3.reasons c.requires.implied.0 c.requires.implied.1.late c.requires.implied.1.within c.args.literal c.requires.implied.1.is c.args.row c.requires.implied.1.reason) c.in_ok-reason.reason c.in_ok-reason.ensures.parity c.in_ok-reason.ensures.numbers c.in_ok-reason.ensures.sum c.in_ok-reason.ensures.clause sound) c.requires.later

pub tell_reason-requires-clause-explains : goal.tell_reason-requires-clause-explains
tell_reason-requires-clause-explains g c = reason_explains (g.P.ParityEngine.state c.args.self.now.engine.now).parities c.args.self.now.state.now.trail (Some c.args.literal) c.in_ok-told.told c.in_ok-told.ensures.reason

pub returns : goal.returns
returns g c =
    let sound = c.requires.ready.stands.3.trail.follows.sound in
    let rows = c.in_ok-lits.ensures.rows ∙ ap (λ x. c.args.self.now.rows.now ++ x ∷ []) (sym c.in_ok-lits.ensures.clause) in
    let stands = subst (λ rows. SearchStands c.tell_reason.new.log.formula.now c.args.self.now.state.now (g.P.ParityEngine.state c.args.self.now.engine.now) rows (g.L.Sink.items c.tell_reason.new.log.sink.now)) (sym c.in_ok-lits.ensures.rows) c.in_ok-lits.ensures.stands_on.stands in
    let implied : IsAntecedent c.args.self.now.state.now.trail c.args.literal c.in_ok-lits.lits =
    subst (IsAntecedent c.args.self.now.state.now.trail c.args.literal) (sym c.in_ok-lits.ensures.clause)
    (told_is_antecedent c.args.self.now.log.now.formula.now.constraints c.args.self.now.state.now (g.P.ParityEngine.state c.args.self.now.engine.now) sound c.args.self.now.first.now c.requires.ready.first c.args.literal c.requires.implied.0 c.requires.implied.1.late c.requires.implied.1.within c.requires.implied.1.is
    c.args.row c.requires.implied.1.reason (the_row c.args.self.now.state.now (g.P.ParityEngine.state c.args.self.now.engine.now) c.requires.ready.stands.3.reasons c.requires.implied.0 c.requires.implied.1.late c.requires.implied.1.within c.args.literal c.requires.implied.1.is c.args.row c.requires.implied.1.reason c.in_ok-reason.reason c.in_ok-reason.ensures.parity c.in_ok-reason.ensures.numbers c.in_ok-reason.ensures.sum c.in_ok-reason.ensures.clause) (is_the_row c.args.self.now.state.now (g.P.ParityEngine.state c.args.self.now.engine.now) c.requires.ready.stands.3.reasons c.requires.implied.0 c.requires.implied.1.late c.requires.implied.1.within c.args.literal c.requires.implied.1.is c.args.row c.requires.implied.1.reason c.in_ok-reason.reason c.in_ok-reason.ensures.parity c.in_ok-reason.ensures.numbers c.in_ok-reason.ensures.sum c.in_ok-reason.ensures.clause) c.in_ok-reason.reason (row_reason c.args.self.now.state.now (g.P.ParityEngine.state c.args.self.now.engine.now) c.requires.ready.stands.3.reasons c.requires.implied.0 c.requires.implied.1.late c.requires.implied.1.within c.args.literal c.requires.implied.1.is c.args.row c.requires.implied.1.reason c.in_ok-reason.reason c.in_ok-reason.ensures.parity c.in_ok-reason.ensures.numbers c.in_ok-reason.ensures.sum c.in_ok-reason.ensures.clause)
    (is_antecedent c.args.self.now.state.now.trail (g.P.ParityEngine.state c.args.self.now.engine.now) c.args.literal c.args.row (row_implied c.args.self.now.state.now (g.P.ParityEngine.state c.args.self.now.engine.now) c.requires.ready.stands.3.reasons c.requires.implied.0 c.requires.implied.1.late c.requires.implied.1.within c.args.literal c.requires.implied.1.is c.args.row c.requires.implied.1.reason) c.in_ok-reason.reason c.in_ok-reason.ensures.parity c.in_ok-reason.ensures.numbers c.in_ok-reason.ensures.sum c.in_ok-reason.ensures.clause sound) c.requires.later c.in_ok-told.told c.in_ok-told.ensures.reason c.in_ok-told.ensures.variables) in
    record {
      clause = record {
        held = inl (
          told_is_sourced c.args.self.now.state.now c.args.self.now.rows.now c.tell_reason.new.rows c.in_ok-lits.lits rows c.next_ids-id.result.clause (search rules),
          antecedent_is_plain c.args.self.now.state.now.trail sound c.args.literal c.requires.implied.0 c.requires.implied.1.within c.requires.implied.1.is c.in_ok-lits.lits implied,
        );
        implied = implied;
      };
      more = record {
        grows = held_grows c.args.self.now.state.now c.args.self.now.rows.now c.tell_reason.new.rows c.args.self.now.first.now (told_grows c.args.self.now.state.now c.args.self.now.rows.now c.tell_reason.new.rows c.in_ok-lits.lits rows);
        one = let long = ap length rows ∙ length-append c.args.self.now.rows.now (c.in_ok-lits.lits ∷ []) in omega (arith, long);
      };
      on = record {
        ready = record {
          stands = stands;
          first = subst (λ (f : Problem). IsFirst f.constraints c.args.self.now.state.now (g.P.ParityEngine.state c.args.self.now.engine.now) c.args.self.now.first.now) (sym c.in_ok-lits.ensures.stands_on.log.formula) c.requires.ready.first;
          going = c.in_ok-lits.ensures.stands_on.log.failed ∙ c.requires.ready.going;
        };
        log = c.in_ok-lits.ensures.stands_on.log;
        lent = record { state = refl; engine = refl; log = refl; rows = refl; first = refl };
      };
    }

pub returns-in_err-lits : goal.returns-in_err-lits
returns-in_err-lits g c =
    let fault = err_from_is_err_and c.from_residual-in_err-lits.result c.from_residual-in_err-lits.ensures.1 in
    rw (fault.1, fault.2) (record {
      clause = tt;
      more = record { grows = subst (λ rs. AreHeld (IsHeldBeside c.args.self.now.state.now c.args.self.now.rows.now c.args.self.now.first.now) (IsHeldBeside c.args.self.now.state.now rs c.args.self.now.first.now)) (sym c.in_err-lits.ensures.same) (λ d n h. h); one = tt };
      on = record { ready = tt; log = c.in_err-lits.ensures.stands_on.log; lent = record { state = refl; engine = refl; log = refl; rows = refl; first = refl } };
    })

pub returns-in_err-reason : goal.returns-in_err-reason
returns-in_err-reason g c =
    let fault = err_from_is_err_and c.from_residual.result c.from_residual.ensures.1 in
    rw (fault.1, fault.2) (record {
      clause = tt;
      more = record { grows = λ d n h. h; one = tt };
      on = record { ready = tt; log = log_stops g.L.Sink g.met.L.Sink.keeps_itself c.args.self.now.log.now; lent = record { state = refl; engine = refl; log = refl; rows = refl; first = refl } };
    })

pub returns-in_err-told : goal.returns-in_err-told
returns-in_err-told g c =
    let fault = err_from_is_err_and c.from_residual-in_err-told.result c.from_residual-in_err-told.ensures.1 in
    rw (fault.1, fault.2) (record {
      clause = tt;
      more = record { grows = λ d n h. h; one = tt };
      on = record { ready = tt; log = log_stops g.L.Sink g.met.L.Sink.keeps_itself c.args.self.now.log.now; lent = record { state = refl; engine = refl; log = refl; rows = refl; first = refl } };
    })
