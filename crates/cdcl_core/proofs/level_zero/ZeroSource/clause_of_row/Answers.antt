use Rattle.std.proofs.Common.{inr, refl, subst, arith}
use Rattle.std.proofs.lemmas.Result.{err_from_is_err_and}
use Rattle.std.specs.Prelude.{IfSome}
use Rattle.cdcl_search.specs.GoingOn.{log_rests, log_stops}
use Rattle.cdcl_core.specs.Alike.{alike_rest}
use Rattle.cdcl_core.specs.Refuting.{IsLiteralOf, IsUntold}
use Rattle.cdcl_core.proofs.BesideLaws.{untold_is_antecedent}
use Rattle.cdcl_core.proofs.level_zero.ZeroSource.clause_of_row.Goals as goal

pub returns-in-Some-clause-clause : goal.returns-in-Some-clause-clause
returns-in-Some-clause-clause g c =
    let h = subst (λ o. IfSome o (λ clause. IsLiteralOf c.args.self.now.first.now c.args.literal × IsUntold c.args.self.now.first.now clause)) c.in-Some.is c.in_ok-lits.ensures.some in
    record { held = inr (h.1, refl); implied = untold_is_antecedent c.args.self.now.log.now.formula.now.constraints c.args.self.now.state.now (g.P.ParityEngine.state c.args.self.now.engine.now) c.args.self.now.first.now c.requires.ready.first c.args.literal c.in-Some.lits h.0 h.1 }

pub returns : goal.returns
returns g c = record { clause = c.told_clause.ensures.clause; more = c.told_clause.ensures.more; on = c.told_clause.ensures.on }

pub returns-in-Some-clause-more : goal.returns-in-Some-clause-more
returns-in-Some-clause-more g c = record { grows = λ d n held. held; one = omega arith }

pub returns-in-Some-clause-on : goal.returns-in-Some-clause-on
returns-in-Some-clause-on g c = record { ready = c.requires.ready; log = log_rests g.L.Sink g.met.L.Sink.keeps_itself c.args.self.now.log.now; lent = alike_rest c.args.self.now }

pub returns-in_err-lits-clause-more : goal.returns-in_err-lits-clause-more
returns-in_err-lits-clause-more g c =
    let fault = err_from_is_err_and c.from_residual.result c.from_residual.ensures.1 in
    rw (fault.1, fault.2) (record { grows = λ d n held. held; one = tt })

pub returns-in_err-lits-clause-on : goal.returns-in_err-lits-clause-on
returns-in_err-lits-clause-on g c =
    let fault = err_from_is_err_and c.from_residual.result c.from_residual.ensures.1 in
    rw (fault.1, fault.2) (record { ready = tt; log = log_stops g.L.Sink g.met.L.Sink.keeps_itself c.args.self.now.log.now; lent = alike_rest c.args.self.now })

pub told_clause-requires-clause-ready : goal.told_clause-requires-clause-ready
told_clause-requires-clause-ready g c = c.requires.ready

pub told_clause-requires-clause-implied : goal.told_clause-requires-clause-implied
told_clause-requires-clause-implied g c = c.requires.implied

pub told_clause-requires-clause-room : goal.told_clause-requires-clause-room
told_clause-requires-clause-room g c = c.requires.room
