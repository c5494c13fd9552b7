use Rattle.std.proofs.Common.{◌≤◌, subst, sym, ap, ◌∙◌, arith, inl}
use Rattle.std.proofs.lemmas.Result.{err_from_is_err_and}
use Rattle.cx_base.proofs.LiteralLaws.{negate-negate}
use Rattle.cx_trail.specs.Sequence.{IsTrueIn}
use Rattle.conflict_learn.specs.Learning.{HasReason}
use Rattle.cdcl_search.specs.GoingOn.{log_rests, log_stops}
use Rattle.cdcl_search.proofs.LowIds.{has_ids}
use Rattle.cx_trail.specs.declared.entry.Reason.TheVariants.{Row}
use Rattle.cdcl_search.proofs.SourceLaws.{no_decision, clause_is_live, clause_is_antecedent, here, reason_is}
use Rattle.cdcl_core.specs.Alike.{alike_rest}
use Rattle.cdcl_core.proofs.BesideLaws.{antecedent_is_plain}
use Rattle.cdcl_core.proofs.level_zero.ZeroSource.clause_at_zero.Goals as goal

pub place_of-place-requires : goal.place_of-place-requires
place_of-place-requires g c =
    let h = c.requires.reason in
    subst (IsTrueIn c.args.self.now.state.now.trail.entries) (sym (ap Rattle.cx_base.specs.Literals.negate c.negate.ensures ∙ negate-negate c.args.literal)) (h.0, (h.1, h.2))

pub unit-requires-clause-ids : goal.unit-requires-clause-ids
unit-requires-clause-ids g c = has_ids c.args.self.now.log.now.formula.now c.args.self.now.state.now (g.P.ParityEngine.state c.args.self.now.engine.now) c.args.self.now.rows.now (g.L.Sink.items c.args.self.now.log.now.sink.now) c.requires.ready.stands

pub stored-requires-clause-ids : goal.stored-requires-clause-ids
stored-requires-clause-ids g c = has_ids c.args.self.now.log.now.formula.now c.args.self.now.state.now (g.P.ParityEngine.state c.args.self.now.engine.now) c.args.self.now.rows.now (g.L.Sink.items c.args.self.now.log.now.sink.now) c.requires.ready.stands

pub stored-requires-clause-live : goal.stored-requires-clause-live
stored-requires-clause-live g c =
    let low : c.len.result ≤ c.place_of-place.result = c.if-place-len.false in
    let is = c.len.ensures in
    clause_is_live c.args.self.now.state.now (g.P.ParityEngine.state c.args.self.now.engine.now) c.requires.ready.stands.3.reasons c.place_of-place.ensures.sound c.args.literal c.place_of-place.result c.place_of-place.ensures.within
    (c.place_of-place.ensures.negated ∙ ap Rattle.cx_base.specs.Literals.negate c.negate.ensures) (omega (arith, low, is)) c.in-Clause.reference (subst (HasReason c.args.self.now.state.now.trail c.args.literal) c.in-Clause.is c.requires.reason)

pub unreachable-requires : goal.unreachable-requires
unreachable-requires g c =
    let low : c.len.result ≤ c.place_of-place.result = c.if-place-len.false in
    let is = c.len.ensures in
    no_decision c.args.self.now.state.now (g.P.ParityEngine.state c.args.self.now.engine.now) c.requires.ready.stands.3.reasons c.place_of-place.ensures.sound c.args.literal c.place_of-place.result c.place_of-place.ensures.within
    (c.place_of-place.ensures.negated ∙ ap Rattle.cx_base.specs.Literals.negate c.negate.ensures) (omega (arith, low, is)) (subst (HasReason c.args.self.now.state.now.trail c.args.literal) c.in-Decision.is c.requires.reason)

pub clause_of_row-requires-clause-implied : goal.clause_of_row-requires-clause-implied
clause_of_row-requires-clause-implied g c =
    let low : c.len.result ≤ c.place_of-place.result = c.if-place-len.false in
    let is = c.len.ensures in
    let negated = c.place_of-place.ensures.negated ∙ ap Rattle.cx_base.specs.Literals.negate c.negate.ensures in (
      c.place_of-place.result,
      record {
        late = omega (arith, low, is);
        within = c.place_of-place.ensures.within;
        is = here c.args.self.now.state.now.trail c.place_of-place.ensures.sound c.args.literal c.place_of-place.result c.place_of-place.ensures.within negated;
        reason = reason_is c.args.self.now.state.now.trail c.place_of-place.ensures.sound c.args.literal c.place_of-place.result c.place_of-place.ensures.within negated (Row c.in-Row.row) (subst (HasReason c.args.self.now.state.now.trail c.args.literal) c.in-Row.is c.requires.reason);
      },
    )

pub returns-in_ok-stored-in-Clause-clause-clause : goal.returns-in_ok-stored-in-Clause-clause-clause
returns-in_ok-stored-in-Clause-clause-clause g c =
    let low : c.len.result ≤ c.place_of-place.result = c.if-place-len.false in
    let is = c.len.ensures in
    let negated = c.place_of-place.ensures.negated ∙ ap Rattle.cx_base.specs.Literals.negate c.negate.ensures in
    let live = clause_is_live c.args.self.now.state.now (g.P.ParityEngine.state c.args.self.now.engine.now) c.requires.ready.stands.3.reasons c.place_of-place.ensures.sound c.args.literal c.place_of-place.result c.place_of-place.ensures.within negated (omega (arith, low, is)) c.in-Clause.reference (subst (HasReason c.args.self.now.state.now.trail c.args.literal) c.in-Clause.is c.requires.reason) in
    record {
      held =
          inl (
            inl (c.in-Clause.reference, live, c.in_ok-stored-in-Clause.ensures.lits, c.in_ok-stored-in-Clause.ensures.is),
            antecedent_is_plain c.args.self.now.state.now.trail c.place_of-place.ensures.sound c.args.literal c.place_of-place.result c.place_of-place.ensures.within
                (here c.args.self.now.state.now.trail c.place_of-place.ensures.sound c.args.literal c.place_of-place.result c.place_of-place.ensures.within negated) _
                (clause_is_antecedent c.args.self.now.state.now (g.P.ParityEngine.state c.args.self.now.engine.now) c.requires.ready.stands.3.reasons c.place_of-place.ensures.sound c.args.literal c.place_of-place.result c.place_of-place.ensures.within negated (omega (arith, low, is)) c.in-Clause.reference (subst (HasReason c.args.self.now.state.now.trail c.args.literal) c.in-Clause.is c.requires.reason) _ c.in_ok-stored-in-Clause.ensures.lits),
          );
      implied =
          clause_is_antecedent c.args.self.now.state.now (g.P.ParityEngine.state c.args.self.now.engine.now) c.requires.ready.stands.3.reasons c.place_of-place.ensures.sound c.args.literal c.place_of-place.result c.place_of-place.ensures.within negated (omega (arith, low, is)) c.in-Clause.reference (subst (HasReason c.args.self.now.state.now.trail c.args.literal) c.in-Clause.is c.requires.reason) _ c.in_ok-stored-in-Clause.ensures.lits;
    }

pub returns-then-place-len-clause-more : goal.returns-then-place-len-clause-more
returns-then-place-len-clause-more g c = record { grows = λ d n held. held; one = omega arith }

pub returns-then-place-len-clause-on : goal.returns-then-place-len-clause-on
returns-then-place-len-clause-on g c = record { ready = c.requires.ready; log = log_rests g.L.Sink g.met.L.Sink.keeps_itself c.args.self.now.log.now; lent = alike_rest c.args.self.now }

pub returns-in_ok-stored-in-Clause-clause-more : goal.returns-in_ok-stored-in-Clause-clause-more
returns-in_ok-stored-in-Clause-clause-more g c = record { grows = λ d n held. held; one = omega arith }

pub returns-in_ok-stored-in-Clause-clause-on : goal.returns-in_ok-stored-in-Clause-clause-on
returns-in_ok-stored-in-Clause-clause-on g c = record { ready = c.requires.ready; log = log_rests g.L.Sink g.met.L.Sink.keeps_itself c.args.self.now.log.now; lent = alike_rest c.args.self.now }

pub returns-in_err-unit-clause-more : goal.returns-in_err-unit-clause-more
returns-in_err-unit-clause-more g c =
    let fault = err_from_is_err_and c.from_residual.result c.from_residual.ensures.1 in
    rw (fault.1, fault.2) (record { grows = λ d n held. held; one = tt })

pub returns-in_err-unit-clause-on : goal.returns-in_err-unit-clause-on
returns-in_err-unit-clause-on g c =
    let fault = err_from_is_err_and c.from_residual.result c.from_residual.ensures.1 in
    rw (fault.1, fault.2) (record { ready = tt; log = log_stops g.L.Sink g.met.L.Sink.keeps_itself c.args.self.now.log.now; lent = alike_rest c.args.self.now })

pub returns-in_err-stored-in-Clause-clause-more : goal.returns-in_err-stored-in-Clause-clause-more
returns-in_err-stored-in-Clause-clause-more g c =
    let fault = err_from_is_err_and c.from_residual-in_err-stored-in-Clause.result c.from_residual-in_err-stored-in-Clause.ensures.1 in
    rw (fault.1, fault.2) (record { grows = λ d n held. held; one = tt })

pub returns-in_err-stored-in-Clause-clause-on : goal.returns-in_err-stored-in-Clause-clause-on
returns-in_err-stored-in-Clause-clause-on g c =
    let fault = err_from_is_err_and c.from_residual-in_err-stored-in-Clause.result c.from_residual-in_err-stored-in-Clause.ensures.1 in
    rw (fault.1, fault.2) (record { ready = tt; log = log_stops g.L.Sink g.met.L.Sink.keeps_itself c.args.self.now.log.now; lent = alike_rest c.args.self.now })

pub returns-in-Row-clause-clause : goal.returns-in-Row-clause-clause
returns-in-Row-clause-clause g c = c.clause_of_row.ensures.clause

pub returns-in-Row-clause-more : goal.returns-in-Row-clause-more
returns-in-Row-clause-more g c = c.clause_of_row.ensures.more

pub returns-in-Row-clause-on : goal.returns-in-Row-clause-on
returns-in-Row-clause-on g c = c.clause_of_row.ensures.on

pub clause_of_row-requires-clause-ready : goal.clause_of_row-requires-clause-ready
clause_of_row-requires-clause-ready g c = c.requires.ready

pub clause_of_row-requires-clause-room : goal.clause_of_row-requires-clause-room
clause_of_row-requires-clause-room g c = c.requires.room
