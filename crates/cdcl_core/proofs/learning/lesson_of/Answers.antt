use Rattle.std.proofs.Common.{ap, sym, subst, IfOk, rules, arith}
use Rattle.conflict_learn.specs.Faults.{fault_in}
use Rattle.conflict_learn.specs.Levels.{Teaches}
use Rattle.cdcl_search.specs.Logs.{GoesOn}
use Rattle.cdcl_search.specs.Sources.{IsSourcedBy, RowsAreApart}
use Rattle.cdcl_search.proofs.Feeding.{trail_is_short}
use Rattle.cdcl_search.proofs.Outcomes.{on_ok}
use Rattle.cdcl_core.proofs.FailLaws.{rows_apart}
use Rattle.cdcl_core.proofs.LearnLaws.{conflict_is_now, stands_at, conflict_at, teaches_at, lesson_by}
use Rattle.cdcl_core.proofs.RefutedLaws.{on_answer}
use Rattle.cdcl_core.proofs.learning.lesson_of.Goals as goal

pub analyse-requires-clause-one_now : goal.analyse-requires-clause-one_now
analyse-requires-clause-one_now g c = conflict_is_now c.args.log.now.formula.now c.args.state.now (g.P.ParityEngine.state c.args.engine.now) c.args.conflict.now.rows (g.L.Sink.items c.args.log.now.sink.now) c.requires.ready.stands c.requires.may.above c.args.conflict.now.lits c.args.conflict.now.id c.requires.conflict

pub analyse-requires-clause-ready : goal.analyse-requires-clause-ready
analyse-requires-clause-ready g c = (c.requires.ready.stands, subst (RowsAreApart c.args.log.now.formula.now.constraints c.args.state.now.trail) (sym c.len.ensures.len) (rows_apart c.args.log.now.formula.now.constraints c.args.state.now.trail _ c.requires.may.apart), c.requires.ready.going)

pub returns-clause-on : goal.returns-clause-on
returns-clause-on g c =
    let new = c.analyse.new.source in
    let loans = c.analyse.ensures.goes_on.0 in
    record {
      stands = stands_at g.L.Sink.items c.analyse.result c.args.state.now new.state.now (g.P.ParityEngine.state c.args.engine.now) (g.P.ParityEngine.state new.engine.now) new.rows.now _ new.log.now c.log-1.given.0 loans.state
          (ap g.P.ParityEngine.state loans.engine) (search rules) (search rules) (on_ok _ c.analyse.result c.analyse.ensures.ready (λ r. r.0));
      clear = c.analyse.ensures.clear;
      log = subst (GoesOn g.L.Sink c.args.log.now (fault_in c.analyse.result)) (search rules) c.analyse.ensures.goes_on.1;
    }

pub returns-clause-conflict : goal.returns-clause-conflict
returns-clause-conflict g c =
    let k = c.args.conflict.now in
    let new = c.analyse.new.source in
    on_answer c.analyse.result (conflict_at c.args.state.now k.lits k.id new.rows.now _ (search rules) (record {
      sourced = subst (λ s. IsSourcedBy s new.rows.now k.lits k.id) c.analyse.ensures.goes_on.0.state (c.analyse.ensures.held k.lits k.id c.requires.conflict.sourced);
      all_false = c.requires.conflict.all_false;
    }))

pub returns-clause-lesson : goal.returns-clause-lesson
returns-clause-lesson g c =
    let lits = c.args.conflict.now.lits in
    let new = c.analyse.new.source in
    lesson_by c.analyse.result c.args.state.now lits _
    (teaches_at c.analyse.result c.args.state.now c.args.state.now.trail lits new.rows.now _ (search rules)
    (subst (λ k. IfOk c.analyse.result (λ r. Teaches c.args.state.now.trail lits (IsSourcedBy k new.rows.now) r.resolved.items r.lits r.back_level r.lbd)) c.analyse.ensures.goes_on.0.state c.analyse.ensures.learned))
    (search rules) (search rules)

pub analyse-requires-clause-room : goal.analyse-requires-clause-room
analyse-requires-clause-room g c =
    let few = c.requires.told.1 in
    let short = trail_is_short c.args.log.now.formula.now c.args.state.now (g.P.ParityEngine.state c.args.engine.now) c.args.conflict.now.rows (g.L.Sink.items c.args.log.now.sink.now) c.requires.ready.stands in
    omega (arith, few, short)
