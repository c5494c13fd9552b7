use Rattle.std.proofs.Common.{◌≡◌, refl, sym, ap, ◌∙◌, subst, List, [], ◌∷◌, ◌++◌, Option, Err, length}
use Rattle.std.proofs.lemmas.Iterator.Adapters.{YieldsList-from_vec}
use Rattle.std.proofs.lemmas.Iterator.Consumers.{YieldsList-turn, YieldsList-so_far}
use Rattle.std.proofs.lemmas.List.{map-id}
use Rattle.cx_base.specs.declared.steps.LogStep.{LogStep}
use Rattle.cx_base.specs.declared.steps.LogEvent.{LogEvent}
use Rattle.cx_base.specs.declared.steps.LogEvent.TheVariants.{Step}
use Rattle.step_text.specs.Sinks.{SinkFaultsAs, HasFailedAs}
use Rattle.clause_tidy.specs.Telling.{IsTornIn, as_events, with_events}
use Rattle.clause_tidy.proofs.Events.{more_and_more, stops_there}
use Rattle.clause_tidy.proofs.telling.tell_all.Goals as goal

with_next : (front : List LogStep) (s : LogStep) → as_events front ++ Step s ∷ [] ≡ as_events (front ++ s ∷ [])
with_next [] s = refl
with_next (x ∷ xs) s = ap (λ es. Step x ∷ es) (with_next xs s)

-- the next step is told after those so far
next_is_told : (front : List LogStep) (s : LogStep) (first old new : Option (List LogEvent)) → old ≡ with_events (as_events front) first → new ≡ with_events (Step s ∷ []) old
    → new ≡ with_events (as_events (front ++ s ∷ [])) first
next_is_told front s first old new so_far now = now ∙ ap (with_events (Step s ∷ [])) so_far ∙ more_and_more (as_events front) (Step s ∷ []) first ∙ ap (λ es. with_events es first) (with_next front s)

pub returns-in-Err : goal.returns-in-Err
returns-in-Err g c =
    let first = g.L.Sink.items c.args.log.now in
    let front = c.loop-step.yielded in
    let road = YieldsList-from_vec c.args.steps.items c.into_iter-step-iterator.ensures.into_iter_gives.0 (c.into_iter-step-iterator.ensures.into_iter_gives.1 ∙ c.args.steps.ok.0) in
    let turn = YieldsList-turn road front _ c.loop-step.yielded_by c.next.result c.next.new.self c.in-Some.step c.in-Some.is c.next.ensures.steps in
    let so_far = sym (map-id front) ∙ YieldsList-so_far road front _ c.loop-step.yielded_by in
    let told = stops_there (IsTornIn g.L.Sink c.tell_one.new.log) c.args.steps.items (length front) c.in-Some.step first (g.L.Sink.items c.loop-step.log) (g.L.Sink.items c.tell_one.new.log) c.in-Err.fault
    turn.0 turn.1 (c.loop-step.invariant.0 ∙ ap (λ steps. with_events (as_events steps) first) so_far) c.in-Err.ensures.told in
    record {
      told = told;
      faults = subst (λ n. SinkFaultsAs {T = Unit {0}} (Err c.in-Err.fault) n (g.L.Sink.faults c.tell_one.new.log)) c.loop-step.invariant.1 c.in-Err.ensures.faults;
      failed = subst (λ b. HasFailedAs {T = Unit {0}} (Err c.in-Err.fault) b (g.L.Sink.has_failed c.tell_one.new.log)) c.loop-step.invariant.2 c.in-Err.ensures.failed;
      frame = g.met.L.Sink.keeps_on c.args.log.now c.loop-step.log c.tell_one.new.log c.loop-step.invariant.3 c.in-Err.ensures.frame;
    }

pub tell_one-requires-clause-going : goal.tell_one-requires-clause-going
tell_one-requires-clause-going g c = c.loop-step.invariant.2 ∙ c.requires.going

pub loop-step-preserved : goal.loop-step-preserved
loop-step-preserved g c = (
  next_is_told c.loop-step.yielded c.in-Some.step (g.L.Sink.items c.args.log.now) (g.L.Sink.items c.loop-step.log) (g.L.Sink.items c.tell_one.new.log) c.loop-step.invariant.0 c.in-Ok.ensures.told,
  c.in-Ok.ensures.faults ∙ c.loop-step.invariant.1,
  c.in-Ok.ensures.failed ∙ c.loop-step.invariant.2,
  g.met.L.Sink.keeps_on c.args.log.now c.loop-step.log c.tell_one.new.log c.loop-step.invariant.3 c.in-Ok.ensures.frame,
)
