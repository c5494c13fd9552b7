use Rattle.std.proofs.Common.{◌∙◌, subst}
use Rattle.cx_base.specs.declared.steps.LogEvent.TheVariants.{Conflict}
use Rattle.cdcl_search.specs.Tells.{FaultsAs, as_events}
use Rattle.cdcl_search.proofs.Events.{mark_is_told}
use Rattle.conflict_learn.specs.Faults.{fault_in}
use Rattle.cdcl_search.specs.GoingOn.{failed_then}
use Rattle.cdcl_search.proofs.telling.tell_marked.Goals as goal

pub returns-in-Ok : goal.returns-in-Ok
returns-in-Ok g c = record {
  told = mark_is_told (g.L.Sink.torn c.tell_all.new.sink) (Conflict c.args.number) (as_events c.args.steps.items) (g.L.Sink.items c.args.sink.now) (g.L.Sink.items c.tell_mark.new.sink) (g.L.Sink.items c.tell_all.new.sink) c.tell_all.result c.in-Ok.ensures.told c.tell_all.ensures.told;
  faults = subst (λ n. FaultsAs c.tell_all.result n (g.L.Sink.faults c.tell_all.new.sink)) c.in-Ok.ensures.faults c.tell_all.ensures.faults;
  failed = failed_then (g.L.Sink.has_failed c.args.sink.now) (g.L.Sink.has_failed c.tell_mark.new.sink) (g.L.Sink.has_failed c.tell_all.new.sink) (fault_in c.tell_all.result) c.in-Ok.ensures.failed c.tell_all.ensures.failed;
  frame = g.met.L.Sink.keeps_on c.args.sink.now c.tell_mark.new.sink c.tell_all.new.sink c.in-Ok.ensures.frame c.tell_all.ensures.frame;
}

pub tell_all-requires-clause-going : goal.tell_all-requires-clause-going
tell_all-requires-clause-going g c = c.in-Ok.ensures.failed ∙ c.requires.going
