use Rattle.std.proofs.Common.{◌∙◌, sym, subst}
use Rattle.std.proofs.lemmas.Result.{err_from_is_err_and}
use Rattle.cdcl_search.specs.GoingOn.{log_then}
use Rattle.cdcl_search.specs.Tells.{IsId}
use Rattle.cdcl_core.specs.Learning.{MayLearn}
use Rattle.cdcl_core.proofs.GradedTies.{resolved_assigned}
use Rattle.cdcl_core.proofs.learning.learn.Goals as goal

pub tell_learned-requires-clause-at : goal.tell_learned-requires-clause-at
tell_learned-requires-clause-at g c = record { stands = c.in_ok-learned.ensures.on.stands; conflict = c.in_ok-learned.ensures.conflict; above = c.requires.may.above }

pub tell_learned-requires-clause-id : goal.tell_learned-requires-clause-id
tell_learned-requires-clause-id g c = subst IsId (sym c.in_ok-learned.ensures.id) c.requires.told.0

pub tell_learned-requires-clause-may : goal.tell_learned-requires-clause-may
tell_learned-requires-clause-may g c = subst (λ f. MayLearn f c.args.state.now) (sym c.in_ok-learned.ensures.on.log.formula) c.requires.may

pub tell_learned-requires-clause-lesson : goal.tell_learned-requires-clause-lesson
tell_learned-requires-clause-lesson g c = c.in_ok-learned.ensures.lesson

pub tell_learned-requires-clause-going : goal.tell_learned-requires-clause-going
tell_learned-requires-clause-going g c = c.in_ok-learned.ensures.on.log.failed ∙ c.requires.ready.going

pub returns-in_err-learned : goal.returns-in_err-learned
returns-in_err-learned g c =
    let fault = err_from_is_err_and c.from_residual.result c.from_residual.ensures.1 in
    rw (fault.1, fault.2) (record { learned = tt; used = tt; clear = tt; log = c.in_err-learned.ensures.on.log })

pub returns-in_err-tell_learned : goal.returns-in_err-tell_learned
returns-in_err-tell_learned g c =
    let fault = err_from_is_err_and c.from_residual-in_err-tell_learned.result c.from_residual-in_err-tell_learned.ensures.1 in
    rw (fault.1, fault.2) (record {
      learned = tt;
      used = tt;
      clear = tt;
      log = log_then g.L.Sink g.met.L.Sink.keeps_on _ c.lesson_of.new.log _ _ c.in_ok-learned.ensures.on.log c.in_err-tell_learned.ensures.log;
    })

pub returns-clause-learned : goal.returns-clause-learned
returns-clause-learned g c = c.in_ok-tell_learned.ensures.learned

pub returns-clause-used : goal.returns-clause-used
returns-clause-used g c =
    record {
      assigned = resolved_assigned c.args.state.now.trail c.in_ok-learned.learned.resolved.items c.in_ok-learned.ensures.lesson.stand;
      touched = c.in_ok-learned.ensures.lesson.touched;
    }

pub returns-clause-clear : goal.returns-clause-clear
returns-clause-clear g c = c.in_ok-learned.ensures.on.clear

pub returns-clause-log : goal.returns-clause-log
returns-clause-log g c = log_then g.L.Sink g.met.L.Sink.keeps_on _ c.lesson_of.new.log _ _ c.in_ok-learned.ensures.on.log c.in_ok-tell_learned.ensures.log
