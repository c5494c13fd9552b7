use Rattle.std.proofs.Common.{◌<◌, ◌≤◌, rules, subst, sym, ap, ◌∙◌, arith, inl, inr}
use Rattle.cx_base.proofs.LiteralLaws.{negate-negate}
use Rattle.cx_trail.specs.Sequence.{IsTrueIn}
use Rattle.conflict_learn.specs.Learning.{HasReason}
use Rattle.cdcl_search.specs.declared.source.Hinted.{Hinted}
use Rattle.cdcl_search.proofs.LowIds.{has_ids}
use Rattle.cdcl_search.proofs.Outcomes.{ok_both, ok_maps}
use Rattle.cdcl_search.proofs.SourceLaws.{no_decision, clause_is_live, clause_is_antecedent, row_is_reason, last_is_sourced, sourced_grows, one_more}
use Rattle.std.proofs.lemmas.Result.{err_from_is_err_and}
use Rattle.cdcl_search.specs.GoingOn.{log_rests, log_stops}
use Rattle.cdcl_search.proofs.source.clause_of_reason.Goals as goal

pub unit-requires-clause-ids : goal.unit-requires-clause-ids
unit-requires-clause-ids g c = has_ids c.args.log.now.formula.now c.args.state.now (g.P.ParityEngine.state c.args.engine.now) c.args.rows.now (g.L.Sink.items c.args.log.now.sink.now) c.requires.ready.stands

pub stored-requires-clause-ids : goal.stored-requires-clause-ids
stored-requires-clause-ids g c = has_ids c.args.log.now.formula.now c.args.state.now (g.P.ParityEngine.state c.args.engine.now) c.args.rows.now (g.L.Sink.items c.args.log.now.sink.now) c.requires.ready.stands

pub hinted_row-requires-clause-reason : goal.hinted_row-requires-clause-reason
hinted_row-requires-clause-reason g c =
    let low : c.len.result ≤ c.place_of-place.result = c.if-place-len.false in
    let is = c.len.ensures in
    row_is_reason c.args.state.now (g.P.ParityEngine.state c.args.engine.now) c.requires.ready.stands.3.reasons c.place_of-place.ensures.sound c.args.literal c.place_of-place.result c.place_of-place.ensures.within
    (c.place_of-place.ensures.negated ∙ ap Rattle.cx_base.specs.Literals.negate c.negate.ensures) (omega (arith, low, is)) c.in-Row.row (subst (HasReason c.args.state.now.trail c.args.literal) c.in-Row.is c.requires.reason)

pub returns-in-Row-clause-grows : goal.returns-in-Row-clause-grows
returns-in-Row-clause-grows g c = sourced_grows c.args.state.now c.args.rows.now c.hinted_row.new.rows (λ (h : Hinted). h.lits) c.hinted_row.result c.hinted_row.ensures.rows c.hinted_row.ensures.same

pub returns-in-Row-clause-one : goal.returns-in-Row-clause-one
returns-in-Row-clause-one g c = one_more c.args.state.now c.args.rows.now c.hinted_row.new.rows (λ (h : Hinted). h.lits) c.hinted_row.result c.hinted_row.ensures.rows

pub returns-then-place-len-clause-stands_on : goal.returns-then-place-len-clause-stands_on
returns-then-place-len-clause-stands_on g c = record { stands = c.requires.ready.stands; log = log_rests g.L.Sink g.met.L.Sink.keeps_itself c.args.log.now }

pub returns-then-place-len-clause-grows : goal.returns-then-place-len-clause-grows
returns-then-place-len-clause-grows g c clause n sourced = sourced

pub stored-requires-clause-live : goal.stored-requires-clause-live
stored-requires-clause-live g c =
    let low : c.len.result ≤ c.place_of-place.result = c.if-place-len.false in
    let is = c.len.ensures in
    clause_is_live c.args.state.now (g.P.ParityEngine.state c.args.engine.now) c.requires.ready.stands.3.reasons c.place_of-place.ensures.sound c.args.literal c.place_of-place.result c.place_of-place.ensures.within
    (c.place_of-place.ensures.negated ∙ ap Rattle.cx_base.specs.Literals.negate c.negate.ensures) (omega (arith, low, is)) c.in-Clause.reference (subst (HasReason c.args.state.now.trail c.args.literal) c.in-Clause.is c.requires.reason)

pub returns-in_ok-stored-in-Clause-clause-stands_on : goal.returns-in_ok-stored-in-Clause-clause-stands_on
returns-in_ok-stored-in-Clause-clause-stands_on g c = record { stands = c.requires.ready.stands; log = log_rests g.L.Sink g.met.L.Sink.keeps_itself c.args.log.now }

pub returns-in_ok-stored-in-Clause-clause-grows : goal.returns-in_ok-stored-in-Clause-clause-grows
returns-in_ok-stored-in-Clause-clause-grows g c clause n sourced = sourced

pub hinted_row-requires-clause-apart : goal.hinted_row-requires-clause-apart
hinted_row-requires-clause-apart g c = c.requires.apart c.in-Row.row c.in-Row.is

pub returns-in-Row-clause-stands_on : goal.returns-in-Row-clause-stands_on
returns-in-Row-clause-stands_on g c = c.hinted_row.ensures.stands_on

pub unreachable-requires : goal.unreachable-requires
unreachable-requires g c =
    let low : c.len.result ≤ c.place_of-place.result = c.if-place-len.false in
    let is = c.len.ensures in
    no_decision c.args.state.now (g.P.ParityEngine.state c.args.engine.now) c.requires.ready.stands.3.reasons c.place_of-place.ensures.sound c.args.literal c.place_of-place.result c.place_of-place.ensures.within
    (c.place_of-place.ensures.negated ∙ ap Rattle.cx_base.specs.Literals.negate c.negate.ensures) (omega (arith, low, is)) (subst (HasReason c.args.state.now.trail c.args.literal) c.in-Decision.is c.requires.reason)

pub returns-then-place-len-clause-one : goal.returns-then-place-len-clause-one
returns-then-place-len-clause-one g c = omega arith

pub returns-in_ok-stored-in-Clause-clause-one : goal.returns-in_ok-stored-in-Clause-clause-one
returns-in_ok-stored-in-Clause-clause-one g c = omega arith

pub place_of-place-requires : goal.place_of-place-requires
place_of-place-requires g c =
    let h = c.requires.reason in
    subst (IsTrueIn c.args.state.now.trail.entries) (sym (ap Rattle.cx_base.specs.Literals.negate c.negate.ensures ∙ negate-negate c.args.literal)) (h.0, (h.1, h.2))

pub returns-in_err-unit : goal.returns-in_err-unit
returns-in_err-unit g c =
    let fault = err_from_is_err_and c.from_residual.result c.from_residual.ensures.1 in
    rw (fault.1, fault.2)
    (record { clause = tt; grows = λ clause n sourced. sourced; one = tt; stands_on = record { stands = tt; log = log_stops g.L.Sink g.met.L.Sink.keeps_itself c.args.log.now } })

pub returns-in_err-stored-in-Clause : goal.returns-in_err-stored-in-Clause
returns-in_err-stored-in-Clause g c =
    let fault = err_from_is_err_and c.from_residual-in_err-stored-in-Clause.result c.from_residual-in_err-stored-in-Clause.ensures.1 in
    rw (fault.1, fault.2)
    (record { clause = tt; grows = λ clause n sourced. sourced; one = tt; stands_on = record { stands = tt; log = log_stops g.L.Sink g.met.L.Sink.keeps_itself c.args.log.now } })

pub hinted_row-requires-clause-ready : goal.hinted_row-requires-clause-ready
hinted_row-requires-clause-ready g c = c.requires.ready

pub returns-then-place-len-clause-clause : goal.returns-then-place-len-clause-clause
returns-then-place-len-clause-clause g c =
    let low : c.place_of-place.result < c.len.result = c.if-place-len.true in
    let is = c.len.ensures in
    record { sourced = inr (inl (c.place_of-place.result, omega (arith, low, is), c.in_ok-unit.ensures.lits, c.in_ok-unit.ensures.is)); implied = search rules; id = c.in_ok-unit.ensures.id }

pub returns-in_ok-stored-in-Clause-clause-clause : goal.returns-in_ok-stored-in-Clause-clause-clause
returns-in_ok-stored-in-Clause-clause-clause g c =
    let low : c.len.result ≤ c.place_of-place.result = c.if-place-len.false in
    let is = c.len.ensures in
    let negated = c.place_of-place.ensures.negated ∙ ap Rattle.cx_base.specs.Literals.negate c.negate.ensures in
    let has = subst (HasReason c.args.state.now.trail c.args.literal) c.in-Clause.is c.requires.reason in
    let live = clause_is_live c.args.state.now (g.P.ParityEngine.state c.args.engine.now) c.requires.ready.stands.3.reasons c.place_of-place.ensures.sound c.args.literal c.place_of-place.result c.place_of-place.ensures.within negated (omega (arith, low, is)) c.in-Clause.reference has in
    record {
      sourced = inl (c.in-Clause.reference, live, c.in_ok-stored-in-Clause.ensures.lits, c.in_ok-stored-in-Clause.ensures.is);
      implied = clause_is_antecedent c.args.state.now (g.P.ParityEngine.state c.args.engine.now) c.requires.ready.stands.3.reasons c.place_of-place.ensures.sound c.args.literal c.place_of-place.result c.place_of-place.ensures.within negated (omega (arith, low, is)) c.in-Clause.reference has _ c.in_ok-stored-in-Clause.ensures.lits;
      id = c.in_ok-stored-in-Clause.ensures.id;
    }

pub returns-in-Row-clause-clause : goal.returns-in-Row-clause-clause
returns-in-Row-clause-clause g c =
    let r = c.hinted_row.result in
    let next = ok_maps r c.hinted_row.ensures.clause (λ h k. k.next) in
    ok_both r (last_is_sourced c.args.state.now c.args.rows.now c.hinted_row.new.rows (λ (h : Hinted). h.lits) (λ (h : Hinted). h.id) r c.hinted_row.ensures.rows next) c.hinted_row.ensures.clause
    (λ h sourced k. record { sourced = sourced; implied = k.implied; id = k.id })
