use Rattle.std.proofs.Common.{ap, subst, ◌∷◌}
use Rattle.cx_base.specs.declared.steps.LogEvent.TheVariants.{Conflict}
use Rattle.search_steps.specs.Recovering.{SettledWithRecovered}
use Rattle.cdcl_search.specs.Calls.{TellsUnmade}
use Rattle.cdcl_search.specs.Tells.{as_events}
use Rattle.cdcl_search.proofs.Tellings.{still_right, tells_still}
use Rattle.cdcl_core.specs.Lessons.{lesson_events}
use Rattle.cdcl_core.proofs.learning.tell_lesson.Goals as goal

pub returns-then-tell_unmade : goal.returns-then-tell_unmade
returns-then-tell_unmade g c =
    subst (λ taken. TellsUnmade g.L.Sink c.args.log.now (lesson_events c.args.lesson.now) taken c.tell_unmade.new.log) c.if-tell_unmade.true c.tell_unmade.ensures

pub tell_round-requires-clause-right : goal.tell_round-requires-clause-right
tell_round-requires-clause-right g c =
    still_right g.L.Sink c.args.log.now c.tell_unmade.new.log (subst (λ taken. TellsUnmade g.L.Sink c.args.log.now (lesson_events c.args.lesson.now) taken c.tell_unmade.new.log) c.if-tell_unmade.false c.tell_unmade.ensures)
    (Conflict c.args.lesson.now.number ∷ as_events c.in_ok-steps.steps.items) (lesson_events c.args.lesson.now) (ap (λ es. Conflict c.args.lesson.now.number ∷ es) c.in_ok-steps.ensures.are) c.requires.right

pub tell_round-requires-clause-unsettled : goal.tell_round-requires-clause-unsettled
tell_round-requires-clause-unsettled g c settled = c.requires.unsettled (subst SettledWithRecovered c.tell_unmade.ensures.log.formula settled)

pub returns : goal.returns
returns g c =
    tells_still g.L.Sink c.args.log.now c.tell_unmade.new.log (subst (λ taken. TellsUnmade g.L.Sink c.args.log.now (lesson_events c.args.lesson.now) taken c.tell_unmade.new.log) c.if-tell_unmade.false c.tell_unmade.ensures) g.met.L.Sink.keeps_on
    (Conflict c.args.lesson.now.number ∷ as_events c.in_ok-steps.steps.items) (lesson_events c.args.lesson.now) (ap (λ es. Conflict c.args.lesson.now.number ∷ es) c.in_ok-steps.ensures.are) c.tell_round.result c.tell_round.new.log c.tell_round.ensures
