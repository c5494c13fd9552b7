use Rattle.std.proofs.Common.{sym, ap, ◌∙◌, subst, refl, ◌∷◌, [], ◌-◌}
use Rattle.cx_base.specs.declared.steps.LogEvent.TheVariants.{Step}
use Rattle.cx_base.specs.declared.steps.LogStep.TheVariants.{Delete}
use Rattle.std.proofs.lemmas.Result.{err_from_is_err_and}
use Rattle.cdcl_search.specs.GoingOn.{log_rests}
use Rattle.cdcl_search.specs.Tells.{IsLeft, with_events}
use Rattle.cdcl_core.specs.Reducing.{MayGo}
use Rattle.cdcl_core.proofs.LearnedLess.{less, one_deletion_keeps, loses_is_left, loses_told}
use Rattle.cdcl_core.proofs.reducing.remove_where_may.Goals as goal

pub tell_step-requires-clause-right : goal.tell_step-requires-clause-right
tell_step-requires-clause-right g c =
    let e = g.P.ParityEngine.state c.args.engine.now in
    let told = g.L.Sink.items c.args.log.now.sink.now in
    let may : MayGo c.args.state.now c.args.reference = c.may_go.ensures c.if-not-may_go.false in
    subst (λ x. IsLeft c.args.log.now.formula.now (with_events (Step x ∷ []) told)) (sym (c.deletion-step.ensures.is ∙ ap (λ n. Delete n []) c.id.ensures))
    (loses_is_left c.args.log.now.formula.now (record c.args.state.now { arena = less c.args.state.now.arena c.args.reference; learned = c.args.state.now.learned - 1 }) e _
    (one_deletion_keeps c.args.log.now.formula.now c.args.state.now e told c.requires.loses c.args.reference may.live may.learned c.requires.units may.enough))

pub returns : goal.returns
returns g c =
    let e = g.P.ParityEngine.state c.args.engine.now in
    let may : MayGo c.args.state.now c.args.reference = c.may_go.ensures c.if-not-may_go.false in
    record {
      reduces_on = record {
        reducing = record {
          loses = loses_told g.L.Sink c.args.log.now c.tell_step.new.log _ c.in_ok-tell_step.ensures.log
              (record c.args.state.now { arena = less c.args.state.now.arena c.args.reference; learned = c.args.state.now.learned - 1 }) _ e (Step c.deletion-step.result) _ (ap Step (c.deletion-step.ensures.is ∙ ap (λ n. Delete n []) c.id.ensures))
              c.in_ok-tell_step.ensures.told (ap (λ a. record c.args.state.now { arena = a; learned = c.args.state.now.learned - 1 }) c.remove.ensures)
              (one_deletion_keeps c.args.log.now.formula.now c.args.state.now e (g.L.Sink.items c.args.log.now.sink.now) c.requires.loses c.args.reference may.live may.learned c.requires.units may.enough);
          units = c.requires.units;
          going = c.in_ok-tell_step.ensures.log.failed ∙ c.requires.going;
        };
        conflicts = refl;
        tidies = refl;
        log = c.in_ok-tell_step.ensures.log;
      };
      trail = refl;
    }

pub returns-then-not-may_go : goal.returns-then-not-may_go
returns-then-not-may_go g c = record { reduces_on = record { reducing = c.requires; conflicts = refl; tidies = refl; log = log_rests g.L.Sink g.met.L.Sink.keeps_itself c.args.log.now }; trail = refl }

pub returns-in_err-tell_step : goal.returns-in_err-tell_step
returns-in_err-tell_step g c =
    let fault = err_from_is_err_and c.from_residual.result c.from_residual.ensures.1 in
    rw (fault.1, fault.2) (record { reduces_on = record { reducing = tt; conflicts = refl; tidies = refl; log = c.in_err-tell_step.ensures.log }; trail = refl })
