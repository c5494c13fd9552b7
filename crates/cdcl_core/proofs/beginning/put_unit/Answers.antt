use Rattle.std.proofs.Common.{refl, subst, ◌+◌, drop, arith, []}
use Rattle.cx_trail.specs.declared.entry.Reason.TheVariants.{Decision}
use Rattle.cdcl_core.specs.Results.{RefutesIn}
use Rattle.cdcl_core.proofs.WaitingLaws.{waiting_units_are_ids, waiting_is_id, next_waits, true_is_put, false_is_refutable, open_is_put}
use Rattle.cdcl_search.specs.GoingOn.{log_rests, log_stops}
use Rattle.std.proofs.lemmas.Result.{err_from_is_err_and}
use Rattle.cdcl_core.proofs.beginning.put_unit.Goals as goal

pub refute-requires-clause-shown : goal.refute-requires-clause-shown
refute-requires-clause-shown g c =
    let (engines, stands) = c.requires.stands in
    false_is_refutable c.args.log.now.formula.now engines c.args.state.now c.index-units-place.result (drop (c.args.place + 1) c.args.units.now) (g.L.Sink.items c.args.log.now.sink.now)
    (next_waits c.args.log.now.formula.now engines c.args.state.now c.args.units.now c.args.place c.index-units-place.result (g.L.Sink.items c.args.log.now.sink.now) c.requires.place c.index-units-place.is stands) c.in-False.ensures.means

pub refute-requires-clause-units : goal.refute-requires-clause-units
refute-requires-clause-units g c =
    let (engines, stands) = c.requires.stands in
    waiting_units_are_ids c.args.log.now.formula.now engines c.args.state.now c.index-units-place.result (drop (c.args.place + 1) c.args.units.now) (g.L.Sink.items c.args.log.now.sink.now)
    (next_waits c.args.log.now.formula.now engines c.args.state.now c.args.units.now c.args.place c.index-units-place.result (g.L.Sink.items c.args.log.now.sink.now) c.requires.place c.index-units-place.is stands)

pub refute-requires-clause-id : goal.refute-requires-clause-id
refute-requires-clause-id g c =
    let (engines, stands) = c.requires.stands in
    waiting_is_id c.args.log.now.formula.now engines c.args.state.now c.index-units-place.result (drop (c.args.place + 1) c.args.units.now) (g.L.Sink.items c.args.log.now.sink.now)
    (next_waits c.args.log.now.formula.now engines c.args.state.now c.args.units.now c.args.place c.index-units-place.result (g.L.Sink.items c.args.log.now.sink.now) c.requires.place c.index-units-place.is stands)

pub returns-in-True-clause-puts : goal.returns-in-True-clause-puts
returns-in-True-clause-puts g c = λ engines stands. true_is_put c.args.log.now.formula.now engines c.args.state.now c.index-units-place.result (drop (c.args.place + 1) c.args.units.now) (g.L.Sink.items c.args.log.now.sink.now)
    (next_waits c.args.log.now.formula.now engines c.args.state.now c.args.units.now c.args.place c.index-units-place.result (g.L.Sink.items c.args.log.now.sink.now) c.requires.place c.index-units-place.is stands) c.in-True.ensures.means

pub returns-in_ok-push-in-Open-clause-puts : goal.returns-in_ok-push-in-Open-clause-puts
returns-in_ok-push-in-Open-clause-puts g c = λ engines stands.
    let st = open_is_put c.args.log.now.formula.now engines c.args.state.now c.index-units-place.result (drop (c.args.place + 1) c.args.units.now) (g.L.Sink.items c.args.log.now.sink.now)
    (next_waits c.args.log.now.formula.now engines c.args.state.now c.args.units.now c.args.place c.index-units-place.result (g.L.Sink.items c.args.log.now.sink.now) c.requires.place c.index-units-place.is stands)
    c.in-Open.ensures.means Decision c.push.new.self c.in_ok-push-in-Open.ensures.items c.imply.new.self c.imply.ensures.pushed c.imply.ensures.sound in
    st

pub returns-in_ok-refute-in-False-clause-puts : goal.returns-in_ok-refute-in-False-clause-puts
returns-in_ok-refute-in-False-clause-puts g c = λ engines stands. subst (λ n. RefutesIn c.args.state.now.tidies c.refute.new.log.formula.now (n + 1) (g.L.Sink.items c.refute.new.log.sink.now) []) stands.3.conflicts c.in_ok-refute-in-False.ensures.refutes

pub returns-in-True-clause-log : goal.returns-in-True-clause-log
returns-in-True-clause-log g c = log_rests g.L.Sink g.met.L.Sink.keeps_itself c.args.log.now

pub returns-in_ok-push-in-Open-clause-log : goal.returns-in_ok-push-in-Open-clause-log
returns-in_ok-push-in-Open-clause-log g c = log_rests g.L.Sink g.met.L.Sink.keeps_itself c.args.log.now

pub returns-in_ok-refute-in-False-clause-log : goal.returns-in_ok-refute-in-False-clause-log
returns-in_ok-refute-in-False-clause-log g c = c.in_ok-refute-in-False.ensures.log

pub returns-in_err-refute-in-False : goal.returns-in_err-refute-in-False
returns-in_err-refute-in-False g c =
    let fault = err_from_is_err_and c.from_residual.result c.from_residual.ensures.1 in
    rw (fault.1, fault.2) (record { puts = tt; tidies = refl; log = c.in_err-refute-in-False.ensures.log })

pub returns-in_err-push-in-Open : goal.returns-in_err-push-in-Open
returns-in_err-push-in-Open g c =
    let fault = err_from_is_err_and c.from_residual-in_err-push-in-Open.result c.from_residual-in_err-push-in-Open.ensures.1 in
    rw (fault.1, fault.2) (record { puts = tt; tidies = refl; log = log_stops g.L.Sink g.met.L.Sink.keeps_itself c.args.log.now })

pub truth-requires : goal.truth-requires
truth-requires g c =
    let (engines, stands) = c.requires.stands in
    let waits = (next_waits c.args.log.now.formula.now engines c.args.state.now c.args.units.now c.args.place c.index-units-place.result (g.L.Sink.items c.args.log.now.sink.now) c.requires.place c.index-units-place.is stands) in
    let high = waits.3.singles.0.2 in
    let vars = waits.3.variables in
    omega (arith, high, vars)

pub imply-requires-clause-high : goal.imply-requires-clause-high
imply-requires-clause-high g c =
    let (engines, stands) = c.requires.stands in
    let waits = (next_waits c.args.log.now.formula.now engines c.args.state.now c.args.units.now c.args.place c.index-units-place.result (g.L.Sink.items c.args.log.now.sink.now) c.requires.place c.index-units-place.is stands) in
    let high = waits.3.singles.0.2 in
    let vars = waits.3.variables in
    omega (arith, high, vars)

pub refute-requires-clause-going : goal.refute-requires-clause-going
refute-requires-clause-going g c = c.requires.going
