use Rattle.std.proofs.Common.{refl, ◌∙◌}
use Rattle.std.proofs.lemmas.Result.{err_from_is_err_and}
use Rattle.cdcl_search.specs.GoingOn.{log_rests, log_then}
use Rattle.cdcl_core.proofs.LearnedLess.{reduction_begins, reduction_ends}
use Rattle.cdcl_core.proofs.reducing.reduce.Goals as goal

pub loop-reference-init : goal.loop-reference-init
loop-reference-init g c = record {
  reducing = record { loses = reduction_begins c.args.log.now.formula.now c.args.state.now (g.P.ParityEngine.state c.args.engine.now) (g.L.Sink.items c.args.log.now.sink.now) c.requires.stands c.requires.many c.requires.restart; units = c.requires.units; going = c.requires.going };
  conflicts = refl;
  tidies = refl;
  log = log_rests g.L.Sink g.met.L.Sink.keeps_itself c.args.log.now;
  trail = refl;
}

pub loop-reference-preserved : goal.loop-reference-preserved
loop-reference-preserved g c =
    let done = c.in_ok-remove_where_may.ensures.reduces_on in
    record {
      reducing = done.reducing;
      conflicts = done.conflicts ∙ c.loop-reference.invariant.conflicts;
      tidies = done.tidies ∙ c.loop-reference.invariant.tidies;
      log = log_then g.L.Sink g.met.L.Sink.keeps_on _ _ _ _ c.loop-reference.invariant.log done.log;
      trail = c.in_ok-remove_where_may.ensures.trail ∙ c.loop-reference.invariant.trail;
    }

pub returns : goal.returns
returns g c = record {
  searches_on = record {
    stands = reduction_ends c.loop-reference.log.formula.now c.loop-reference.state (g.P.ParityEngine.state c.args.engine.now) (g.L.Sink.items c.loop-reference.log.sink.now) c.detach_all_removed.new.self c.loop-reference.invariant.reducing.loses c.detach_all_removed.ensures;
    conflicts = c.loop-reference.invariant.conflicts;
    tidies = c.loop-reference.invariant.tidies;
    log = c.loop-reference.invariant.log;
  };
  trail = c.loop-reference.invariant.trail;
  units = c.loop-reference.invariant.reducing.units;
}

pub returns-in_err-remove_where_may : goal.returns-in_err-remove_where_may
returns-in_err-remove_where_may g c =
    let done = c.in_err-remove_where_may.ensures.reduces_on in
    let fault = err_from_is_err_and c.from_residual.result c.from_residual.ensures.1 in
    rw (fault.1, fault.2) (record {
      searches_on = record {
        stands = tt;
        conflicts = done.conflicts ∙ c.loop-reference.invariant.conflicts;
        tidies = done.tidies ∙ c.loop-reference.invariant.tidies;
        log = log_then g.L.Sink g.met.L.Sink.keeps_on _ c.loop-reference.log _ _ c.loop-reference.invariant.log done.log;
      };
      trail = c.in_err-remove_where_may.ensures.trail ∙ c.loop-reference.invariant.trail;
      units = tt;
    })
