use Rattle.std.proofs.Common.{◌∙◌, sym, ap, subst, IfOk, IsTrue, None, rules, arith}
use Rattle.cx_base.specs.Literals.{Literal}
use Rattle.cx_semantics.specs.Chain.{has_literal}
use Rattle.conflict_learn.specs.Final.{IsFinal, StandsBelow}
use Rattle.conflict_learn.specs.Learning.{AreHeld, literals_of}
use Rattle.cdcl_search.proofs.Feeding.{trail_is_short}
use Rattle.cdcl_search.proofs.Outcomes.{on_ok}
use Rattle.conflict_learn.specs.Faults.{fault_in}
use Rattle.cdcl_search.specs.Logs.{GoesOn}
use Rattle.cdcl_core.specs.Refuting.{IsHeldBeside}
use Rattle.cdcl_core.proofs.LearnLaws.{stands_at}
use Rattle.cdcl_core.proofs.level_zero.trace_all.Goals as goal

pub analyse_final-requires-clause-ready : goal.analyse_final-requires-clause-ready
analyse_final-requires-clause-ready g c = record { stands = c.requires.ready.stands; first = c.requires.first; going = c.requires.ready.going }

pub analyse_final-requires-clause-room : goal.analyse_final-requires-clause-room
analyse_final-requires-clause-room g c =
    let few = c.requires.few_rows in
    let short = trail_is_short c.args.log.now.formula.now c.args.state.now (g.P.ParityEngine.state c.args.engine.now) c.args.rows.now (g.L.Sink.items c.args.log.now.sink.now) c.requires.ready.stands in
    let is = c.len-below.ensures.len in
    omega (arith, few, short, is)

pub analyse_final-requires-clause-all_false : goal.analyse_final-requires-clause-all_false
analyse_final-requires-clause-all_false g c = λ m has skipped.
    let f = c.requires.false_now m (ap (λ ls. has_literal ls m) (sym c.as_slice.ensures) ∙ has) in
    (f.0, (let less = f.1.0 in let is = c.len-below.ensures.len in omega (arith, less, is)), f.1.1)

pub returns-clause-on : goal.returns-clause-on
returns-clause-on g c =
    let new = c.analyse_final.new.source in
    let loans = c.analyse_final.ensures.goes_on.0 in
    record {
      stands = stands_at g.L.Sink.items c.analyse_final.result c.args.state.now new.state.now (g.P.ParityEngine.state c.args.engine.now) (g.P.ParityEngine.state new.engine.now) new.rows.now c.rows-1.given.0 new.log.now c.log-1.given.0 loans.state
          (ap g.P.ParityEngine.state loans.engine) (search rules) (search rules) (on_ok _ c.analyse_final.result c.analyse_final.ensures.ready (λ r. r.stands));
      clear = c.analyse_final.ensures.clear;
      log = subst (GoesOn g.L.Sink c.args.log.now (fault_in c.analyse_final.result)) (search rules) c.analyse_final.ensures.goes_on.1;
    }

pub returns-clause-left : goal.returns-clause-left
returns-clause-left g c =
    let new = c.analyse_final.new.source in
    let trail = c.args.state.now.trail in
    let rows = c.rows-1.given.0 in
    let loans = c.analyse_final.ensures.goes_on.0 in
    subst (λ n. IfOk c.analyse_final.result (λ x. IsFinal trail n None c.args.clause.now (IsHeldBeside c.args.state.now rows c.args.first.now) x.resolved.items x.lits)) c.len-below.ensures.len
    (subst (λ ls. IfOk c.analyse_final.result (λ x. IsFinal trail c.len-below.result None ls (IsHeldBeside c.args.state.now rows c.args.first.now) x.resolved.items x.lits)) c.as_slice.ensures
    (subst (λ rs. IfOk c.analyse_final.result (λ x. IsFinal trail c.len-below.result None c.as_slice.result.now (IsHeldBeside c.args.state.now rs c.args.first.now) x.resolved.items x.lits)) (search rules)
    (subst (λ f. IfOk c.analyse_final.result (λ x. IsFinal trail c.len-below.result None c.as_slice.result.now (IsHeldBeside c.args.state.now new.rows.now f) x.resolved.items x.lits)) loans.first
    (subst (λ k. IfOk c.analyse_final.result (λ x. IsFinal trail c.len-below.result None c.as_slice.result.now (IsHeldBeside k new.rows.now new.first.now) x.resolved.items x.lits)) loans.state c.analyse_final.ensures.left))))

pub returns-clause-held : goal.returns-clause-held
returns-clause-held g c =
    let new = c.analyse_final.new.source in
    let rows = c.rows-1.given.0 in
    let loans = c.analyse_final.ensures.goes_on.0 in
    subst (λ rs. AreHeld (IsHeldBeside c.args.state.now c.args.rows.now c.args.first.now) (IsHeldBeside c.args.state.now rs c.args.first.now)) (search rules)
    (subst (λ f. AreHeld (IsHeldBeside c.args.state.now c.args.rows.now c.args.first.now) (IsHeldBeside c.args.state.now new.rows.now f)) loans.first
    (subst (λ k. AreHeld (IsHeldBeside c.args.state.now c.args.rows.now c.args.first.now) (IsHeldBeside k new.rows.now new.first.now)) loans.state c.analyse_final.ensures.held))

pub returns-clause-stand : goal.returns-clause-stand
returns-clause-stand g c = subst (λ n. IfOk c.analyse_final.result (λ x. (l : Literal) → IsTrue (has_literal (literals_of x.resolved.items) l) → StandsBelow c.args.state.now.trail n l)) c.len-below.ensures.len c.analyse_final.ensures.stand
