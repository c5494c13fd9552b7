use Rattle.std.proofs.Common.{◌∙◌, sym, subst, Option}
use Rattle.rup_engine.specs.declared.engine.Engine.{Engine}
use Rattle.rup_finder.specs.Ready.{IsReady, IsReadyFor}
use Rattle.rup_finder.proofs.ReadyLaws.{keep_by, ready_behind}
use Rattle.rup_finder.proofs.ready.ask.Goals.{in-Some, in-None}
use Rattle.rup_finder.proofs.ready.ask.Goals as goal

pub returns-clause-ready : goal.returns-clause-ready
returns-clause-ready c table is_ready =
    keep_by (IsReady table) c.is_ok.result c.match-engine.engine c.keep_if.new.engine c.keep_if.ensures.stays c.keep_if.ensures.goes
    (λ ok. elim c.match-engine.branch [
      | in-Some w ↦
          let before = subst (λ (e : Option Engine). IsReadyFor table c.args.target.now e) w.in-Some.is is_ready in
          let found = w.find-answer.ensures in
          subst (IsReady table) (sym w.engine-is) (ready_behind table c.args.target.now w.in-Some.held w.find-answer.new.self w.find-answer.result c.match-engine.answer w.answer-is (sym c.is_ok.ensures.value ∙ ok) found.rest found.finds before.1)
      | in-None w ↦ subst (IsReady table) (sym (w.engine-is ∙ w.in-None.is)) tt
    ]) tt
