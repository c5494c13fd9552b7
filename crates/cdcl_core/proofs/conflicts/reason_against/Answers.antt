use Rattle.std.proofs.Common.{sym, subst, ◌∙◌, [], Some, inl}
use Rattle.cx_base.proofs.LiteralLaws.{negate-negate}
use Rattle.conflict_learn.specs.Learning.{HasReason}
use Rattle.cdcl_search.specs.Tells.{IsId}
use Rattle.cdcl_search.proofs.LowIds.{has_ids}
use Rattle.cdcl_search.proofs.SourceLaws.{no_decision, clause_is_live, clause_is_antecedent, row_is_reason}
use Rattle.cdcl_core.specs.Concluding.{Concludes}
use Rattle.cdcl_core.proofs.ConflictLaws.{hinted_concludes}
use Rattle.std.proofs.lemmas.Result.{err_from_is_err_and}
use Rattle.cdcl_search.specs.GoingOn.{log_rests, log_stops}
use Rattle.cdcl_core.proofs.conflicts.reason_against.Goals as goal

pub stored-requires-clause-ids : goal.stored-requires-clause-ids
stored-requires-clause-ids g c = has_ids c.args.log.now.formula.now c.args.state.now (g.P.ParityEngine.state c.args.engine.now) [] (g.L.Sink.items c.args.log.now.sink.now) c.requires.stands

pub stored-requires-clause-live : goal.stored-requires-clause-live
stored-requires-clause-live g c = clause_is_live c.args.state.now (g.P.ParityEngine.state c.args.engine.now) c.requires.stands.3.reasons c.requires.stands.3.trail.follows.sound c.args.literal c.requires.high.0 c.requires.high.1 (c.requires.high.2 ∙ sym (negate-negate c.args.literal)) c.requires.high.3 c.in-Clause.reference (subst (HasReason c.args.state.now.trail c.args.literal) c.in-Clause.is c.requires.reason)

pub of_row-requires-clause-row : goal.of_row-requires-clause-row
of_row-requires-clause-row g c = row_is_reason c.args.state.now (g.P.ParityEngine.state c.args.engine.now) c.requires.stands.3.reasons c.requires.stands.3.trail.follows.sound c.args.literal c.requires.high.0 c.requires.high.1 (c.requires.high.2 ∙ sym (negate-negate c.args.literal)) c.requires.high.3 c.in-Row.row (subst (HasReason c.args.state.now.trail c.args.literal) c.in-Row.is c.requires.reason)

pub unreachable-requires : goal.unreachable-requires
unreachable-requires g c = no_decision c.args.state.now (g.P.ParityEngine.state c.args.engine.now) c.requires.stands.3.reasons c.requires.stands.3.trail.follows.sound c.args.literal c.requires.high.0 c.requires.high.1 (c.requires.high.2 ∙ sym (negate-negate c.args.literal)) c.requires.high.3 (subst (HasReason c.args.state.now.trail c.args.literal) c.in-Decision.is c.requires.reason)

pub returns-in_ok-stored-in-Clause : goal.returns-in_ok-stored-in-Clause
returns-in_ok-stored-in-Clause g c =
    let k = c.of_stored.ensures in
    let r = c.in-Clause.reference in
    let live = clause_is_live c.args.state.now (g.P.ParityEngine.state c.args.engine.now) c.requires.stands.3.reasons c.requires.stands.3.trail.follows.sound c.args.literal c.requires.high.0 c.requires.high.1 (c.requires.high.2 ∙ sym (negate-negate c.args.literal)) c.requires.high.3 r (subst (HasReason c.args.state.now.trail c.args.literal) c.in-Clause.is c.requires.reason) in
    let is = k.2 ∙ c.in_ok-stored-in-Clause.ensures.lits in
    record {
      concludes = subst (Concludes c.args.log.now.formula.now c.args.state.now (g.P.ParityEngine.state c.args.engine.now) (g.L.Sink.items c.args.log.now.sink.now) (Some c.args.literal)) (sym k.1)
          (hinted_concludes c.args.log.now.formula.now c.args.state.now (g.P.ParityEngine.state c.args.engine.now) (g.L.Sink.items c.args.log.now.sink.now) c.requires.stands c.args.literal k.0 k.4 (subst IsId (sym k.3) c.in_ok-stored-in-Clause.ensures.id)
          (inl (r, live, is, k.3 ∙ c.in_ok-stored-in-Clause.ensures.is)) (clause_is_antecedent c.args.state.now (g.P.ParityEngine.state c.args.engine.now) c.requires.stands.3.reasons c.requires.stands.3.trail.follows.sound c.args.literal c.requires.high.0 c.requires.high.1 (c.requires.high.2 ∙ sym (negate-negate c.args.literal)) c.requires.high.3 r (subst (HasReason c.args.state.now.trail c.args.literal) c.in-Clause.is c.requires.reason) k.0.lits is));
      log = log_rests g.L.Sink g.met.L.Sink.keeps_itself c.args.log.now;
    }

pub of_row-requires-clause-stands : goal.of_row-requires-clause-stands
of_row-requires-clause-stands g c = c.requires.stands

pub of_row-requires-clause-going : goal.of_row-requires-clause-going
of_row-requires-clause-going g c = c.requires.going

pub returns-in_err-stored-in-Clause : goal.returns-in_err-stored-in-Clause
returns-in_err-stored-in-Clause g c =
    let fault = err_from_is_err_and c.from_residual.result c.from_residual.ensures.1 in
    rw (fault.1, fault.2) (record { concludes = tt; log = log_stops g.L.Sink g.met.L.Sink.keeps_itself c.args.log.now })
