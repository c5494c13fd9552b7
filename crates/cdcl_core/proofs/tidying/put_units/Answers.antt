use Rattle.std.proofs.Common.{◌+◌, ◌∙◌, drop, get_or, refl, subst, arith}
use Rattle.std.proofs.lemmas.Result.{err_from_is_err_and}
use Rattle.cdcl_search.specs.GoingOn.{log_rests, log_then}
use Rattle.cdcl_core.specs.Tidying.{PutsUnit}
use Rattle.cdcl_core.proofs.WaitingUnits.{at_place, rests_at, stays_on, none_behind}
use Rattle.cdcl_core.proofs.tidying.put_units.Goals as goal

pub loop-place-init : goal.loop-place-init
loop-place-init g c = record { beside = c.requires.beside; stays = rests_at c.args.state.now c.requires.restart; log = log_rests g.L.Sink g.met.L.Sink.keeps_itself _ }

pub put_unit-requires-clause-beside : goal.put_unit-requires-clause-beside
put_unit-requires-clause-beside g c = (
  drop (c.loop-place.place + 1) c.args.units.now,
  drop (c.loop-place.place + 1) c.args.ids.now,
  at_place c.loop-place.log.formula.now c.loop-place.state (g.P.ParityEngine.state c.args.engine.now) c.args.units.now c.args.ids.now (g.L.Sink.items c.loop-place.log.sink.now) c.loop-place.place c.index-units-place.result (get_or c.args.ids.now c.loop-place.place 0)
      c.loop-place-test.true c.requires.each c.index-units-place.is refl c.loop-place.invariant.beside,
)

pub put_unit-requires-clause-restart : goal.put_unit-requires-clause-restart
put_unit-requires-clause-restart g c = c.loop-place.invariant.stays.restart

pub put_unit-requires-clause-going : goal.put_unit-requires-clause-going
put_unit-requires-clause-going g c = c.loop-place.invariant.log.failed ∙ c.requires.going

pub loop-place-preserved : goal.loop-place-preserved
loop-place-preserved g c = record {
  beside = subst (PutsUnit c.put_unit.new.log.formula.now c.put_unit.new.state (g.P.ParityEngine.state c.args.engine.now) (drop (c.loop-place.place + 1) c.args.units.now) (drop (c.loop-place.place + 1) c.args.ids.now) (g.L.Sink.items c.put_unit.new.log.sink.now)) c.if-not-branch.false
      (c.in_ok-put_unit.ensures.puts (drop (c.loop-place.place + 1) c.args.units.now) (drop (c.loop-place.place + 1) c.args.ids.now)
      (at_place c.loop-place.log.formula.now c.loop-place.state (g.P.ParityEngine.state c.args.engine.now) c.args.units.now c.args.ids.now (g.L.Sink.items c.loop-place.log.sink.now) c.loop-place.place c.index-units-place.result (get_or c.args.ids.now c.loop-place.place 0)
      c.loop-place-test.true c.requires.each c.index-units-place.is refl c.loop-place.invariant.beside));
  stays = stays_on c.args.state.now c.loop-place.state c.put_unit.new.state c.loop-place.invariant.stays c.in_ok-put_unit.ensures.stays;
  log = log_then g.L.Sink g.met.L.Sink.keeps_on _ _ _ _ c.loop-place.invariant.log c.in_ok-put_unit.ensures.log;
}

pub returns-clause-puts : goal.returns-clause-puts
returns-clause-puts g c =
    let far = c.loop-place-test.false in
    none_behind c.loop-place.log.formula.now c.loop-place.state (g.P.ParityEngine.state c.args.engine.now) c.args.units.now c.args.ids.now (g.L.Sink.items c.loop-place.log.sink.now) c.loop-place.place (omega (arith, far)) c.requires.each c.loop-place.invariant.beside

pub returns-clause-stays : goal.returns-clause-stays
returns-clause-stays g c = c.loop-place.invariant.stays

pub returns-clause-log : goal.returns-clause-log
returns-clause-log g c = c.loop-place.invariant.log

pub returns-then-not-branch-clause-puts : goal.returns-then-not-branch-clause-puts
returns-then-not-branch-clause-puts g c =
    subst (PutsUnit c.put_unit.new.log.formula.now c.put_unit.new.state (g.P.ParityEngine.state c.args.engine.now) (drop (c.loop-place.place + 1) c.args.units.now) (drop (c.loop-place.place + 1) c.args.ids.now) (g.L.Sink.items c.put_unit.new.log.sink.now)) c.if-not-branch.true
    (c.in_ok-put_unit.ensures.puts (drop (c.loop-place.place + 1) c.args.units.now) (drop (c.loop-place.place + 1) c.args.ids.now)
    (at_place c.loop-place.log.formula.now c.loop-place.state (g.P.ParityEngine.state c.args.engine.now) c.args.units.now c.args.ids.now (g.L.Sink.items c.loop-place.log.sink.now) c.loop-place.place c.index-units-place.result (get_or c.args.ids.now c.loop-place.place 0)
    c.loop-place-test.true c.requires.each c.index-units-place.is refl c.loop-place.invariant.beside))

pub returns-then-not-branch-clause-stays : goal.returns-then-not-branch-clause-stays
returns-then-not-branch-clause-stays g c = stays_on c.args.state.now c.loop-place.state c.put_unit.new.state c.loop-place.invariant.stays c.in_ok-put_unit.ensures.stays

pub returns-then-not-branch-clause-log : goal.returns-then-not-branch-clause-log
returns-then-not-branch-clause-log g c = log_then g.L.Sink g.met.L.Sink.keeps_on _ c.loop-place.log _ _ c.loop-place.invariant.log c.in_ok-put_unit.ensures.log

pub returns-in_err-put_unit : goal.returns-in_err-put_unit
returns-in_err-put_unit g c =
    let fault = err_from_is_err_and c.from_residual.result c.from_residual.ensures.1 in
    rw (fault.1, fault.2) (record { puts = tt; stays = tt; log = log_then g.L.Sink g.met.L.Sink.keeps_on _ c.loop-place.log _ _ c.loop-place.invariant.log c.in_err-put_unit.ensures.log })
