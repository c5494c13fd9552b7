use Rattle.std.proofs.Common.{ap, subst, IfOk, rules, arith}
use Rattle.conflict_learn.specs.Faults.{fault_in}
use Rattle.conflict_learn.specs.Final.{IsFinal}
use Rattle.cdcl_search.specs.Logs.{GoesOn}
use Rattle.cdcl_search.specs.Sources.{IsSourcedBy}
use Rattle.cdcl_search.proofs.Feeding.{trail_is_short}
use Rattle.cdcl_search.proofs.Outcomes.{on_ok}
use Rattle.cdcl_core.specs.Failing.{IsFailure}
use Rattle.cdcl_core.proofs.LearnLaws.{stands_at}
use Rattle.cdcl_core.proofs.FailLaws.{fails_at, is_left}
use Rattle.cdcl_core.proofs.failing.trace.Goals as goal

pub analyse_final-requires-clause-room : goal.analyse_final-requires-clause-room
analyse_final-requires-clause-room g c =
    let few = c.requires.few_rows in
    let within = c.requires.fails.1.within in
    let short = trail_is_short c.args.log.now.formula.now c.args.state.now (g.P.ParityEngine.state c.args.engine.now) c.args.rows.now (g.L.Sink.items c.args.log.now.sink.now) c.requires.ready.stands in
    omega (arith, few, short, within)

pub returns-clause-on : goal.returns-clause-on
returns-clause-on g c =
    let new = c.analyse_final.new.source in
    let loans = c.analyse_final.ensures.goes_on.0 in
    record {
      stands = stands_at g.L.Sink.items c.analyse_final.result c.args.state.now new.state.now (g.P.ParityEngine.state c.args.engine.now) (g.P.ParityEngine.state new.engine.now) new.rows.now c.rows-1.given.0 new.log.now c.log-1.given.0 loans.state
          (ap g.P.ParityEngine.state loans.engine) (search rules) (search rules) (on_ok _ c.analyse_final.result c.analyse_final.ensures.ready (λ r. r.0));
      clear = c.analyse_final.ensures.clear;
      log = subst (GoesOn g.L.Sink c.args.log.now (fault_in c.analyse_final.result)) (search rules) c.analyse_final.ensures.goes_on.1;
    }

pub returns-clause-left : goal.returns-clause-left
returns-clause-left g c = λ n fails.
    let new = c.analyse_final.new.source in
    let state = c.analyse_final.ensures.goes_on.0.state in
    let rows = c.rows-1.given.0 in
    is_left c.analyse_final.result _ c.args.state.now c.args.lits.now n c.args.kept.now c.args.below rows
    (fails_at _ c.args.state.now c.args.lits.now n c.args.kept.now c.args.below c.args.rows.now rows
    (subst (λ rs. IsSourcedBy c.args.state.now rs c.args.lits.now n) (search rules) (subst (λ k. IsSourcedBy k new.rows.now c.args.lits.now n) state (c.analyse_final.ensures.held c.args.lits.now n fails.sourced))) (subst (λ cs. IsFailure cs c.args.state.now c.args.lits.now n c.args.kept.now c.args.below c.args.rows.now) (search rules) fails))
    (subst (λ ls. IfOk c.analyse_final.result (λ x. IsFinal c.args.state.now.trail c.args.below c.args.kept.now ls (IsSourcedBy c.args.state.now rows) x.resolved.items x.lits)) c.as_slice.ensures
    (subst (λ rs. IfOk c.analyse_final.result (λ x. IsFinal c.args.state.now.trail c.args.below c.args.kept.now c.as_slice.result.now (IsSourcedBy c.args.state.now rs) x.resolved.items x.lits)) (search rules)
    (subst (λ k. IfOk c.analyse_final.result (λ x. IsFinal c.args.state.now.trail c.args.below c.args.kept.now c.as_slice.result.now (IsSourcedBy k new.rows.now) x.resolved.items x.lits)) state c.analyse_final.ensures.left)))
    (search rules)
