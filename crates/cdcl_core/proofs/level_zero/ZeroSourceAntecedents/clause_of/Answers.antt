use Rattle.std.proofs.Common.{ap, arith, length}
use Rattle.std.proofs.lemmas.Result.{err_from_is_err_and}
use Rattle.cdcl_core.proofs.level_zero.ZeroSourceAntecedents.clause_of.Goals as goal

pub returns : goal.returns
returns g c =
    let e = c.in_ok-hinted.ensures in
    record {
      trail = ap (λ k. k.trail) e.on.lent.state;
      held = e.more.grows;
      clause = e.clause.held;
      implied = e.clause.implied;
      ready = e.on.ready;
      reach = ap (λ k. length k.trail.entries) e.on.lent.state;
      room = omega (arith, e.more.one, ap (λ f. f.variables) e.on.log.formula);
      faults = e.on.log.counts;
      goes_on = (e.on.lent, e.on.log);
    }

pub returns-in_err-hinted : goal.returns-in_err-hinted
returns-in_err-hinted g c =
    let fault = err_from_is_err_and c.from_residual.result c.from_residual.ensures.1 in
    let e = c.in_err-hinted.ensures in
    rw (fault.1, fault.2) (record {
      trail = ap (λ k. k.trail) e.on.lent.state;
      held = e.more.grows;
      clause = tt;
      implied = tt;
      ready = tt;
      reach = ap (λ k. length k.trail.entries) e.on.lent.state;
      room = tt;
      faults = e.on.log.counts;
      goes_on = (e.on.lent, e.on.log);
    })
