use Rattle.std.proofs.Common.{◌∙◌, sym, ap, [], true≢false, subst, arith, refl}
use Rattle.cx_base.specs.Problem.{Problem}
use Rattle.search_steps.specs.Recovering.{SettledWithRecovered}
use Rattle.cdcl_search.specs.Searching.{OpensLevel}
use Rattle.cdcl_search.specs.GoingOn.{log_then, log_rests}
use Rattle.cdcl_search.proofs.Feeding.{trail_is_short}
use Rattle.std.proofs.lemmas.Result.{err_from_is_err_and}
use Rattle.cdcl_search.proofs.searching.search_on.Goals as goal

pub loop-reached-preserved : goal.loop-reached-preserved
loop-reached-preserved g c =
    let i = c.loop-reached.invariant in
    let d : OpensLevel c.loop-reached.state c.turn.new.state (g.P.ParityEngine.state c.turn.new.engine) = rw c.in_default.is at c.in_ok-reached.ensures.reaches in
    record {
      stands = c.in_ok-reached.ensures.searches_on.stands;
      unbroken = d.unbroken;
      keeps = c.turn.ensures.keeps;
      settled = λ s. absurd (true≢false (sym (rw c.in_default.is at (c.in_ok-reached.ensures.settled s).0)));
      conflicts = c.turn.ensures.searches_on.conflicts ∙ i.conflicts;
      tidies = c.turn.ensures.searches_on.tidies ∙ i.tidies;
      log = log_then g.L.Sink g.met.L.Sink.keeps_on _ _ _ _ i.log c.in_ok-reached.ensures.searches_on.log;
    }

pub loop-reached-smaller : goal.loop-reached-smaller
loop-reached-smaller g c =
    let d : OpensLevel c.loop-reached.state c.turn.new.state (g.P.ParityEngine.state c.turn.new.engine) = rw c.in_default.is at c.in_ok-reached.ensures.reaches in
    let longer = d.longer in
    let short = trail_is_short c.turn.new.log.formula.now c.turn.new.state (g.P.ParityEngine.state c.turn.new.engine) [] (g.L.Sink.items c.turn.new.log.sink.now) c.in_ok-reached.ensures.searches_on.stands in
    let same = ap (λ (f : Problem). f.variables) c.in_ok-reached.ensures.searches_on.log.formula in
    omega (arith, longer, short, same)

pub returns-in-Some-clause-settled : goal.returns-in-Some-clause-settled
returns-in-Some-clause-settled g c s = (c.in_ok-reached.ensures.settled s).1 ∙ c.loop-reached.invariant.settled (subst SettledWithRecovered c.in_ok-reached.ensures.searches_on.log.formula s)

pub loop-reached-init : goal.loop-reached-init
loop-reached-init g c = record {
  stands = c.requires.ready.stands;
  unbroken = c.requires.ready.unbroken;
  keeps = c.requires.keeps;
  settled = λ s. refl;
  conflicts = refl;
  tidies = refl;
  log = log_rests g.L.Sink g.met.L.Sink.keeps_itself c.args.log.now;
}

pub turn-requires-clause-ready : goal.turn-requires-clause-ready
turn-requires-clause-ready g c = record { stands = c.loop-reached.invariant.stands; unbroken = c.loop-reached.invariant.unbroken; going = c.loop-reached.invariant.log.failed ∙ c.requires.ready.going }

pub returns-in_err-reached-clause-searches_on : goal.returns-in_err-reached-clause-searches_on
returns-in_err-reached-clause-searches_on g c =
    let fault = err_from_is_err_and c.from_residual.result c.from_residual.ensures.1 in
    rw (fault.1, fault.2) (record {
      stands = tt;
      conflicts = c.turn.ensures.searches_on.conflicts ∙ c.loop-reached.invariant.conflicts;
      tidies = c.turn.ensures.searches_on.tidies ∙ c.loop-reached.invariant.tidies;
      log = log_then g.L.Sink g.met.L.Sink.keeps_on _ _ _ _ c.loop-reached.invariant.log c.in_err-reached.ensures.searches_on.log;
    })

pub returns-in-Some-clause-searches_on : goal.returns-in-Some-clause-searches_on
returns-in-Some-clause-searches_on g c = record {
  stands = c.in_ok-reached.ensures.searches_on.stands;
  conflicts = c.turn.ensures.searches_on.conflicts ∙ c.loop-reached.invariant.conflicts;
  tidies = c.turn.ensures.searches_on.tidies ∙ c.loop-reached.invariant.tidies;
  log = log_then g.L.Sink g.met.L.Sink.keeps_on _ _ _ _ c.loop-reached.invariant.log c.in_ok-reached.ensures.searches_on.log;
}
