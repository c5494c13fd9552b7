use Rattle.std.proofs.Common.{refl, sym, subst, ◌≤◌, ◌+◌, arith}
use Rattle.std.specs.List.{All}
use Rattle.std.proofs.lemmas.Result.{err_from_is_err_and}
use Rattle.cdcl_search.specs.GoingOn.{log_stops, log_then}
use Rattle.cdcl_search.specs.Ties.{SearchStandsFrom}
use Rattle.cdcl_search.specs.Units.{AreUnitsAnd}
use Rattle.cdcl_search.proofs.LowIds.{has_ids}
use Rattle.cdcl_search.proofs.UnitTies.{with_unit}
use Rattle.cdcl_search.proofs.UnitLaws.{implying_are_low, stands_then, left_then}
use Rattle.cdcl_search.proofs.units.tell_unit.Goals as goal

pub hints_of-requires-clause-known : goal.hints_of-requires-clause-known
hints_of-requires-clause-known g c = subst (All (λ m. m.variable ≤ c.args.state.now.trail.variables)) (sym c.as_slice.ensures)
    (implying_are_low c.args.state.now.trail c.requires.stands.3.trail.follows.sound c.args.literal c.args.implying.now.lits _ c.requires.next.next.0 c.requires.next.next.1 c.requires.next.implied)

pub hints_of-requires-clause-ids : goal.hints_of-requires-clause-ids
hints_of-requires-clause-ids g c = (has_ids c.args.log.now.formula.now c.args.state.now (g.P.ParityEngine.state c.args.engine.now) c.args.rows.now (g.L.Sink.items c.args.log.now.sink.now) c.requires.stands).units

pub tell_chained-requires-clause-id : goal.tell_chained-requires-clause-id
tell_chained-requires-clause-id g c = (has_ids c.args.log.now.formula.now c.args.state.now (g.P.ParityEngine.state c.args.engine.now) c.args.rows.now (g.L.Sink.items c.args.log.now.sink.now) c.requires.stands).next

pub tell_chained-requires-clause-right : goal.tell_chained-requires-clause-right
tell_chained-requires-clause-right g c =
    left_then c.args.log.now.formula.now c.args.state.now (g.P.ParityEngine.state c.args.engine.now) c.args.rows.now (g.L.Sink.items c.args.log.now.sink.now) c.requires.stands
    c.requires.level c.args.literal c.args.implying.now.lits c.args.implying.now.id c.requires.next c.in_ok-hints.hints (subst (λ lits. AreUnitsAnd c.args.state.now lits c.args.implying.now.id c.in_ok-hints.hints) c.as_slice.ensures c.in_ok-hints.ensures) c.requires.apart

pub returns-clause-to_delete : goal.returns-clause-to_delete
returns-clause-to_delete g c =
    let stands = subst (λ f. SearchStandsFrom f (with_unit c.args.state.now c.push.new.self (c.args.state.now.next + 1)) (g.P.ParityEngine.state c.args.engine.now) (c.args.state.now.next + 1) c.args.rows.now (g.L.Sink.items c.tell_chained.new.log.sink.now)) (sym c.tell_chained.ensures.log.formula)
    (stands_then c.args.log.now.formula.now c.args.state.now (g.P.ParityEngine.state c.args.engine.now) c.args.rows.now (g.L.Sink.items c.args.log.now.sink.now) c.requires.stands
    c.requires.level c.args.literal c.args.implying.now.lits c.args.implying.now.id c.requires.next c.in_ok-hints.hints (subst (λ lits. AreUnitsAnd c.args.state.now lits c.args.implying.now.id c.in_ok-hints.hints) c.as_slice.ensures c.in_ok-hints.ensures) c.requires.apart
    (g.L.Sink.items c.tell_chained.new.log.sink.now) c.in_ok-tell_chained.ensures.told c.push.new.self c.in_ok-push.ensures.items (c.args.state.now.next + 1) refl) in
    record { stands = stands; log = c.in_ok-tell_chained.ensures.log }

pub returns-in_err-hints-clause-to_delete : goal.returns-in_err-hints-clause-to_delete
returns-in_err-hints-clause-to_delete g c =
    let fault = err_from_is_err_and c.from_residual.result c.from_residual.ensures.1 in
    rw (fault.1, fault.2) (record { stands = tt; log = log_stops g.L.Sink g.met.L.Sink.keeps_itself c.args.log.now })

pub returns-in_err-push-clause-to_delete : goal.returns-in_err-push-clause-to_delete
returns-in_err-push-clause-to_delete g c =
    let fault = err_from_is_err_and c.from_residual-in_err-push.result c.from_residual-in_err-push.ensures.1 in
    rw (fault.1, fault.2) (record {
      stands = tt;
      log = log_then g.L.Sink g.met.L.Sink.keeps_on _ c.tell_chained.new.log _ _ c.in_ok-tell_chained.ensures.log (log_stops g.L.Sink g.met.L.Sink.keeps_itself c.tell_chained.new.log);
    })

pub overflow_add-state : goal.overflow_add-state
overflow_add-state g c =
    let ids = has_ids c.args.log.now.formula.now c.args.state.now (g.P.ParityEngine.state c.args.engine.now) c.args.rows.now (g.L.Sink.items c.args.log.now.sink.now) c.requires.stands in
    let high : c.args.state.now.next ≤ 2000000000000000000 = ids.next.1 in
    omega (arith, high)

pub returns-in_err-tell_chained-clause-to_delete : goal.returns-in_err-tell_chained-clause-to_delete
returns-in_err-tell_chained-clause-to_delete g c =
    let fault = err_from_is_err_and c.from_residual-in_err-tell_chained.result c.from_residual-in_err-tell_chained.ensures.1 in
    rw (fault.1, fault.2) (record { stands = tt; log = c.in_err-tell_chained.ensures.log })
