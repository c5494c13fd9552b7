use Rattle.std.proofs.Common.{◌∙◌, sym, ap, length}
use Rattle.std.proofs.lemmas.Result.{err_from_is_err_and}
use Rattle.cx_base.specs.Problem.{Problem}
use Rattle.cx_trail.specs.Sequence.{TrailState}
use Rattle.search_policy.proofs.AssumingLaws.{extended_keeps}
use Rattle.cdcl_search.proofs.searching.settle.Goals as goal
use Rattle.cdcl_search.proofs.UnitLaws.{failed_still, finds_still}

pub propagate-found-requires : goal.propagate-found-requires
propagate-found-requires g c = record { stands = (_, c.requires.ready.stands); unbroken = c.requires.ready.unbroken }

pub check-failed-requires : goal.check-failed-requires
check-failed-requires g c =
    let longer = c.propagate-found.ensures.same.4 in
    let stands = c.propagate-found.ensures.stands (g.L.Sink.items c.args.log.now.sink.now) c.requires.ready.stands in
    extended_keeps c.args.log.now.formula.now.constraints c.args.assumptions.now c.args.state.now.trail c.requires.keeps c.requires.ready.stands.3.trail.follows.sound
    c.propagate-found.new.state.trail longer.more longer.parts longer.level longer.variables stands.3.trail.follows.sound

pub tell_units-requires-clause-stands : goal.tell_units-requires-clause-stands
tell_units-requires-clause-stands g c = c.propagate-found.ensures.stands (g.L.Sink.items c.args.log.now.sink.now) c.requires.ready.stands

pub returns-in-None-clause-settles : goal.returns-in-None-clause-settles
returns-in-None-clause-settles g c = (
  finds_still c.propagate-found.new.state c.tell_units.new.state (g.P.ParityEngine.state c.propagate-found.new.engine) c.propagate-found.result c.tell_units.ensures.same c.propagate-found.ensures.finds,
  c.in-None.ensures.found ∙ ap (λ (t : TrailState). length t.entries) (sym c.tell_units.ensures.same.trail),
)

pub tell_units-requires-clause-going : goal.tell_units-requires-clause-going
tell_units-requires-clause-going g c = c.requires.ready.going

pub returns-in-Some-clause-settles : goal.returns-in-Some-clause-settles
returns-in-Some-clause-settles g c =
    let old = c.propagate-found.new.state in
    let new = c.tell_units.new.state in
    let still = failed_still _ _ old new _ _ c.tell_units.ensures.same (ap (λ (f : Problem). f.constraints) c.in_ok-tell_units.ensures.stands_on.log.formula) c.in-Some.ensures.found in
    (still.0, still.1, still.2, finds_still old new (g.P.ParityEngine.state c.propagate-found.new.engine) c.propagate-found.result c.tell_units.ensures.same c.propagate-found.ensures.finds)

pub returns-in-Some-clause-searches_on : goal.returns-in-Some-clause-searches_on
returns-in-Some-clause-searches_on g c = record {
  stands = c.in_ok-tell_units.ensures.stands_on.stands;
  conflicts = c.tell_units.ensures.same.conflicts ∙ c.propagate-found.ensures.same.2;
  tidies = c.tell_units.ensures.same.tidies ∙ c.propagate-found.ensures.same.5;
  log = c.in_ok-tell_units.ensures.stands_on.log;
}

pub returns-in-None-clause-searches_on : goal.returns-in-None-clause-searches_on
returns-in-None-clause-searches_on g c = record {
  stands = c.in_ok-tell_units.ensures.stands_on.stands;
  conflicts = c.tell_units.ensures.same.conflicts ∙ c.propagate-found.ensures.same.2;
  tidies = c.tell_units.ensures.same.tidies ∙ c.propagate-found.ensures.same.5;
  log = c.in_ok-tell_units.ensures.stands_on.log;
}

pub returns-in_err-tell_units-clause-searches_on : goal.returns-in_err-tell_units-clause-searches_on
returns-in_err-tell_units-clause-searches_on g c =
    let fault = err_from_is_err_and c.from_residual.result c.from_residual.ensures.1 in
    rw (fault.1, fault.2) (record {
      stands = tt;
      conflicts = c.tell_units.ensures.same.conflicts ∙ c.propagate-found.ensures.same.2;
      tidies = c.tell_units.ensures.same.tidies ∙ c.propagate-found.ensures.same.5;
      log = c.in_err-tell_units.ensures.stands_on.log;
    })
