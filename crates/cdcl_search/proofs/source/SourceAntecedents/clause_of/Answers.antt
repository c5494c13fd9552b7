use Rattle.std.proofs.Common.{◌∙◌, refl, sym, ap, subst, arith}
use Rattle.cx_base.specs.Problem.{Problem}
use Rattle.cdcl_search.specs.Sources.{RowsAreApart}
use Rattle.std.proofs.lemmas.Result.{err_from_is_err_and}
use Rattle.cdcl_search.proofs.source.SourceAntecedents.clause_of.Goals as goal

pub clause_of_reason-requires-clause-apart : goal.clause_of_reason-requires-clause-apart
clause_of_reason-requires-clause-apart g c = c.requires.ready.1 c.args.literal c.args.reason c.requires.below c.requires.stands

pub clause_of_reason-requires-clause-ready : goal.clause_of_reason-requires-clause-ready
clause_of_reason-requires-clause-ready g c = record { stands = c.requires.ready.0; going = c.requires.ready.2; room = let room = c.requires.room in omega (arith, room) }

pub returns-in_err-hinted : goal.returns-in_err-hinted
returns-in_err-hinted g c =
    let e = c.in_err-hinted.ensures in
    let fault = err_from_is_err_and c.from_residual.result c.from_residual.ensures.1 in
    rw (fault.1, fault.2)
    (record { trail = refl; held = λ clause n h. e.grows clause n h; clause = tt; implied = tt; ready = tt; reach = refl; room = tt; faults = e.stands_on.log.counts; goes_on = (record { state = refl; engine = refl; log = refl; rows = refl; below = refl }, e.stands_on.log) })

pub returns : goal.returns
returns g c =
    let e = c.in_ok-hinted.ensures in
    record {
      trail = refl;
      held = λ clause n h. e.grows clause n h;
      clause = e.clause.sourced;
      implied = e.clause.implied;
      ready = (e.stands_on.stands, subst (λ (f : Problem). RowsAreApart f.constraints c.args.self.now.state.now.trail c.args.self.now.below) (sym e.stands_on.log.formula) c.requires.ready.1, e.stands_on.log.failed ∙ c.requires.ready.2);
      reach = refl;
      room = omega (arith, e.one, ap (λ f. f.variables) e.stands_on.log.formula);
      faults = e.stands_on.log.counts;
      goes_on = (record { state = refl; engine = refl; log = refl; rows = refl; below = refl }, e.stands_on.log);
    }
