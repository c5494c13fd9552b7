use Rattle.std.proofs.Common.{sym, subst, ◌∙◌, [], length, Some, inl, inr, rules, ◌<◌}
use Rattle.cx_trail.specs.Sequence.{entry_at}
use Rattle.conflict_learn.specs.Learning.{HasReason}
use Rattle.cdcl_search.specs.Tells.{IsId}
use Rattle.cdcl_search.proofs.LowIds.{has_ids}
use Rattle.cdcl_core.specs.Concluding.{Concludes}
use Rattle.cdcl_core.proofs.AgainstLaws.{alone_implied, against_has_reason}
use Rattle.cdcl_core.proofs.ConflictLaws.{hinted_concludes}
use Rattle.std.proofs.lemmas.Result.{err_from_is_err_and}
use Rattle.cdcl_search.specs.GoingOn.{log_rests, log_stops}
use Rattle.cdcl_core.proofs.conflicts.clause_against.Goals as goal

pub unit-requires-clause-ids : goal.unit-requires-clause-ids
unit-requires-clause-ids g c = has_ids c.args.log.now.formula.now c.args.state.now (g.P.ParityEngine.state c.args.engine.now) [] (g.L.Sink.items c.args.log.now.sink.now) c.requires.stands

pub returns-then-place-len : goal.returns-then-place-len
returns-then-place-len g c =
    let k = c.of_stored.ensures in
    let l = (entry_at c.args.state.now.trail.entries c.args.place).literal in
    let is = k.2 ∙ c.in_ok-unit.ensures.lits in
    let low : c.args.place < length c.args.state.now.units.items = search rules in
    record {
      concludes = subst (Concludes c.args.log.now.formula.now c.args.state.now (g.P.ParityEngine.state c.args.engine.now) (g.L.Sink.items c.args.log.now.sink.now) (Some l)) (sym k.1)
          (hinted_concludes c.args.log.now.formula.now c.args.state.now (g.P.ParityEngine.state c.args.engine.now) (g.L.Sink.items c.args.log.now.sink.now) c.requires.stands l k.0 k.4 (subst IsId (sym k.3) c.in_ok-unit.ensures.id)
          (inr (inl (c.args.place, low, is, k.3 ∙ c.in_ok-unit.ensures.is))) (alone_implied c.args.state.now.trail l k.0.lits is));
      log = log_rests g.L.Sink g.met.L.Sink.keeps_itself c.args.log.now;
    }

pub reason_against-requires-clause-reason : goal.reason_against-requires-clause-reason
reason_against-requires-clause-reason g c =
    subst (λ e. HasReason c.args.state.now.trail e.literal e.reason) (sym c.entry-entry.ensures.is)
    (against_has_reason c.args.log.now.formula.now.constraints c.args.assumptions.now c.args.state.now.trail c.requires.keeps c.requires.stands.3.trail.follows.sound c.requires.stands.1.log.apart c.args.place c.requires.place c.requires.contradicts)

pub reason_against-requires-clause-stands : goal.reason_against-requires-clause-stands
reason_against-requires-clause-stands g c = c.requires.stands

pub reason_against-requires-clause-going : goal.reason_against-requires-clause-going
reason_against-requires-clause-going g c = c.requires.going

pub unit-requires-clause-place : goal.unit-requires-clause-place
unit-requires-clause-place g c = c.requires.place

pub returns-in_err-unit : goal.returns-in_err-unit
returns-in_err-unit g c =
    let fault = err_from_is_err_and c.from_residual.result c.from_residual.ensures.1 in
    rw (fault.1, fault.2) (record { concludes = tt; log = log_stops g.L.Sink g.met.L.Sink.keeps_itself c.args.log.now })
