use Rattle.std.proofs.Common.{refl, ◌∙◌, subst, drop, ◌+◌, arith}
use Rattle.cdcl_search.specs.GoingOn.{log_rests, log_then}
use Rattle.cdcl_core.specs.Waiting.{SearchStandsBut, PutsUnits}
use Rattle.cdcl_core.proofs.WaitingLaws.{none_left}
use Rattle.std.proofs.lemmas.Result.{err_from_is_err_and}
use Rattle.cdcl_core.proofs.beginning.put_units.Goals as goal

pub loop-place-init : goal.loop-place-init
loop-place-init g c = record { stands = λ engines stands. stands; tidies = refl; log = log_rests g.L.Sink g.met.L.Sink.keeps_itself _ }

pub put_unit-requires-clause-stands : goal.put_unit-requires-clause-stands
put_unit-requires-clause-stands g c = (c.requires.stands.0, c.loop-place.invariant.stands c.requires.stands.0 c.requires.stands.1)

pub put_unit-requires-clause-going : goal.put_unit-requires-clause-going
put_unit-requires-clause-going g c = c.loop-place.invariant.log.failed ∙ c.requires.going

pub returns-clause-puts : goal.returns-clause-puts
returns-clause-puts g c =
    let far = c.loop-place-test.false in
    λ engines stands. subst (λ us. SearchStandsBut c.loop-place.log.formula.now engines c.loop-place.state us (g.L.Sink.items c.loop-place.log.sink.now)) (none_left c.args.units.now c.loop-place.place (omega (arith, far)))
    (c.loop-place.invariant.stands engines stands)

pub returns-then-not-branch-clause-puts : goal.returns-then-not-branch-clause-puts
returns-then-not-branch-clause-puts g c = λ engines stands.
    subst (PutsUnits c.put_unit.new.log.formula.now engines c.put_unit.new.state (drop (c.loop-place.place + 1) c.args.units.now) (g.L.Sink.items c.put_unit.new.log.sink.now)) c.if-not-branch.true
    (c.in_ok-put_unit.ensures.puts engines (c.loop-place.invariant.stands engines stands))

pub loop-place-preserved : goal.loop-place-preserved
loop-place-preserved g c = record {
  stands = λ engines stands.
      subst (PutsUnits c.put_unit.new.log.formula.now engines c.put_unit.new.state (drop (c.loop-place.place + 1) c.args.units.now) (g.L.Sink.items c.put_unit.new.log.sink.now)) c.if-not-branch.false
      (c.in_ok-put_unit.ensures.puts engines (c.loop-place.invariant.stands engines stands));
  tidies = c.put_unit.ensures.tidies ∙ c.loop-place.invariant.tidies;
  log = log_then g.L.Sink g.met.L.Sink.keeps_on _ _ _ _ c.loop-place.invariant.log c.in_ok-put_unit.ensures.log;
}

pub returns-clause-log : goal.returns-clause-log
returns-clause-log g c = c.loop-place.invariant.log

pub returns-then-not-branch-clause-log : goal.returns-then-not-branch-clause-log
returns-then-not-branch-clause-log g c = log_then g.L.Sink g.met.L.Sink.keeps_on _ c.loop-place.log _ _ c.loop-place.invariant.log c.in_ok-put_unit.ensures.log

pub returns-in_err-put_unit : goal.returns-in_err-put_unit
returns-in_err-put_unit g c =
    let fault = err_from_is_err_and c.from_residual.result c.from_residual.ensures.1 in
    rw (fault.1, fault.2) (record { puts = tt; tidies = c.put_unit.ensures.tidies ∙ c.loop-place.invariant.tidies; log = log_then g.L.Sink g.met.L.Sink.keeps_on _ c.loop-place.log _ _ c.loop-place.invariant.log c.in_err-put_unit.ensures.log })
