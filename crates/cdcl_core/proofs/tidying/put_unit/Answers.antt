use Rattle.std.proofs.Common.{arith}
use Rattle.std.proofs.lemmas.Result.{err_from_is_err_and}
use Rattle.cx_trail.specs.declared.entry.Reason.TheVariants.{Decision}
use Rattle.cdcl_search.specs.GoingOn.{log_rests, log_stops}
use Rattle.cdcl_core.proofs.WaitingUnits.{false_is_refutable, open_is_put, rests_at, stays_at, true_is_put, unit_is_id, units_are, waits}
use Rattle.cdcl_core.proofs.tidying.put_unit.Goals as goal

pub truth-requires : goal.truth-requires
truth-requires g c =
    let (units, ids, stands) = c.requires.beside in
    let high = (waits c.args.log.now.formula.now c.args.state.now (g.P.ParityEngine.state c.args.engine.now) c.args.unit c.args.id units ids (g.L.Sink.items c.args.log.now.sink.now) stands c.requires.restart).within.1 in
    let vars = stands.3.trail.variables in
    omega (arith, high, vars)

pub refute-requires-clause-shown : goal.refute-requires-clause-shown
refute-requires-clause-shown g c =
    let (units, ids, stands) = c.requires.beside in
    false_is_refutable c.args.log.now.formula.now c.args.state.now (g.P.ParityEngine.state c.args.engine.now) c.args.unit c.args.id units ids (g.L.Sink.items c.args.log.now.sink.now) stands c.requires.restart c.in-False.ensures.means

pub refute-requires-clause-units : goal.refute-requires-clause-units
refute-requires-clause-units g c =
    let (units, ids, stands) = c.requires.beside in
    units_are c.args.log.now.formula.now c.args.state.now (g.P.ParityEngine.state c.args.engine.now) c.args.unit c.args.id units ids (g.L.Sink.items c.args.log.now.sink.now) stands c.requires.restart

pub refute-requires-clause-id : goal.refute-requires-clause-id
refute-requires-clause-id g c =
    let (units, ids, stands) = c.requires.beside in
    unit_is_id c.args.log.now.formula.now c.args.state.now (g.P.ParityEngine.state c.args.engine.now) c.args.unit c.args.id units ids (g.L.Sink.items c.args.log.now.sink.now) stands c.requires.restart

pub imply-requires-clause-high : goal.imply-requires-clause-high
imply-requires-clause-high g c =
    let (units, ids, stands) = c.requires.beside in
    let high = (waits c.args.log.now.formula.now c.args.state.now (g.P.ParityEngine.state c.args.engine.now) c.args.unit c.args.id units ids (g.L.Sink.items c.args.log.now.sink.now) stands c.requires.restart).within.1 in
    let vars = stands.3.trail.variables in
    omega (arith, high, vars)

pub returns-in-True-clause-puts : goal.returns-in-True-clause-puts
returns-in-True-clause-puts g c = λ units ids stands.
    true_is_put c.args.log.now.formula.now c.args.state.now (g.P.ParityEngine.state c.args.engine.now) c.args.unit c.args.id units ids (g.L.Sink.items c.args.log.now.sink.now) stands c.requires.restart c.in-True.ensures.means

pub returns-in_ok-push-in-Open-clause-puts : goal.returns-in_ok-push-in-Open-clause-puts
returns-in_ok-push-in-Open-clause-puts g c = λ units ids stands.
    open_is_put c.args.log.now.formula.now c.args.state.now (g.P.ParityEngine.state c.args.engine.now) c.args.unit c.args.id units ids (g.L.Sink.items c.args.log.now.sink.now) stands c.requires.restart
    c.in-Open.ensures.means Decision c.push.new.self c.in_ok-push-in-Open.ensures.items c.imply.new.self c.imply.ensures.pushed c.imply.ensures.sound

pub returns-in_ok-refute-in-False-clause-puts : goal.returns-in_ok-refute-in-False-clause-puts
returns-in_ok-refute-in-False-clause-puts g c = λ units ids stands. c.in_ok-refute-in-False.ensures.refutes

pub returns-in-True-clause-stays : goal.returns-in-True-clause-stays
returns-in-True-clause-stays g c = rests_at c.args.state.now c.requires.restart

pub returns-in_ok-refute-in-False-clause-stays : goal.returns-in_ok-refute-in-False-clause-stays
returns-in_ok-refute-in-False-clause-stays g c = rests_at c.args.state.now c.requires.restart

pub returns-in_ok-push-in-Open-clause-stays : goal.returns-in_ok-push-in-Open-clause-stays
returns-in_ok-push-in-Open-clause-stays g c =
    stays_at c.args.state.now c.args.unit c.args.id Decision c.push.new.self c.in_ok-push-in-Open.ensures.items c.imply.new.self c.imply.ensures.pushed c.requires.restart

pub returns-in-True-clause-log : goal.returns-in-True-clause-log
returns-in-True-clause-log g c = log_rests g.L.Sink g.met.L.Sink.keeps_itself c.args.log.now

pub returns-in_ok-push-in-Open-clause-log : goal.returns-in_ok-push-in-Open-clause-log
returns-in_ok-push-in-Open-clause-log g c = log_rests g.L.Sink g.met.L.Sink.keeps_itself c.args.log.now

pub returns-in_ok-refute-in-False-clause-log : goal.returns-in_ok-refute-in-False-clause-log
returns-in_ok-refute-in-False-clause-log g c = c.in_ok-refute-in-False.ensures.log

pub returns-in_err-refute-in-False : goal.returns-in_err-refute-in-False
returns-in_err-refute-in-False g c =
    let fault = err_from_is_err_and c.from_residual.result c.from_residual.ensures.1 in
    rw (fault.1, fault.2) (record { puts = tt; stays = tt; log = c.in_err-refute-in-False.ensures.log })

pub returns-in_err-push-in-Open : goal.returns-in_err-push-in-Open
returns-in_err-push-in-Open g c =
    let fault = err_from_is_err_and c.from_residual-in_err-push-in-Open.result c.from_residual-in_err-push-in-Open.ensures.1 in
    rw (fault.1, fault.2) (record { puts = tt; stays = tt; log = log_stops g.L.Sink g.met.L.Sink.keeps_itself c.args.log.now })
