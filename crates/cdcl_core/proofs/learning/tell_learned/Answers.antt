use Rattle.std.proofs.Common.{refl, ◌+◌, arith}
use Rattle.cdcl_search.proofs.LowIds.{next_is_id, variables_are_few}
use Rattle.cdcl_search.proofs.StepTexts.{literals_are_proper}
use Rattle.cdcl_search.proofs.Tellings.{holds_where}
use Rattle.cdcl_core.specs.Learning.{Learns}
use Rattle.cdcl_core.specs.Lessons.{lesson_events}
use Rattle.cdcl_core.specs.declared.learning.UnmadeLesson.{UnmadeLesson}
use Rattle.cdcl_core.proofs.LearnLaws.{learns_then, learned_is_left, within}
use Rattle.cdcl_core.proofs.LessonTexts.{lesson_ids, lesson_is_tellable}
use Rattle.cdcl_core.proofs.learning.tell_learned.Goals as goal

pub tell_lesson-requires-clause-ids : goal.tell_lesson-requires-clause-ids
tell_lesson-requires-clause-ids g c = lesson_ids c.args.log.now.formula.now c.args.state.now (g.P.ParityEngine.state c.args.engine.now) _ (g.L.Sink.items c.args.log.now.sink.now) c.requires.at.stands refl c.requires.id c.requires.lesson.teaches.learned.follows

pub tell_lesson-requires-clause-events : goal.tell_lesson-requires-clause-events
tell_lesson-requires-clause-events g c =
    let l : UnmadeLesson = record { number = c.args.state.now.conflicts + 1; id = c.args.state.now.next; learned = c.args.learned; conflict = c.args.conflict } in
    let st = c.requires.at.stands in
    let few = c.requires.may.few in
    lesson_is_tellable c.args.log.now.formula.now l (omega (arith, few)) c.requires.may.unsettled
    (literals_are_proper c.args.log.now.formula.now.variables c.args.learned.now.lits (variables_are_few c.args.log.now.formula.now c.args.state.now (g.P.ParityEngine.state c.args.engine.now) _ c.args.conflict.now.rows st.0 st.3)
    (within c.args.log.now.formula.now c.args.state.now (g.P.ParityEngine.state c.args.engine.now) c.args.conflict.now.rows (g.L.Sink.items c.args.log.now.sink.now) st
    c.requires.at.above (next_is_id c.args.log.now.formula.now c.args.state.now (g.P.ParityEngine.state c.args.engine.now) _ c.args.conflict.now.rows st.0 st.3).1 c.requires.may.few c.args.conflict.now.lits c.args.conflict.now.id c.requires.at.conflict c.args.learned.now.resolved.items c.args.learned.now.lits c.args.learned.now.back_level c.args.learned.now.lbd c.requires.lesson.teaches c.requires.may.free))
    (lesson_ids c.args.log.now.formula.now c.args.state.now (g.P.ParityEngine.state c.args.engine.now) l (g.L.Sink.items c.args.log.now.sink.now) st refl c.requires.id c.requires.lesson.teaches.learned.follows)

pub tell_lesson-requires-clause-unsettled : goal.tell_lesson-requires-clause-unsettled
tell_lesson-requires-clause-unsettled g c = c.requires.may.unsettled

pub tell_lesson-requires-clause-right : goal.tell_lesson-requires-clause-right
tell_lesson-requires-clause-right g c =
    let st = c.requires.at.stands in
    learned_is_left _ c.args.state.now (g.P.ParityEngine.state c.args.engine.now) c.args.learned.now.lits c.args.learned.now.back_level _
    (learns_then c.args.log.now.formula.now c.args.state.now (g.P.ParityEngine.state c.args.engine.now) c.args.conflict.now.rows (g.L.Sink.items c.args.log.now.sink.now) st
    c.requires.at.above (next_is_id c.args.log.now.formula.now c.args.state.now (g.P.ParityEngine.state c.args.engine.now) _ c.args.conflict.now.rows st.0 st.3).1 c.requires.may.few c.args.conflict.now.lits c.args.conflict.now.id c.requires.at.conflict c.args.learned.now.resolved.items c.args.learned.now.lits c.args.learned.now.back_level c.args.learned.now.lbd c.requires.lesson.teaches c.requires.may.free
    _ refl)

pub returns-clause-learned : goal.returns-clause-learned
returns-clause-learned g c =
    let l : UnmadeLesson = record { number = c.args.state.now.conflicts + 1; id = c.args.state.now.next; learned = c.args.learned; conflict = c.args.conflict } in
    let st = c.requires.at.stands in
    holds_where (λ formula told. Learns formula c.args.state.now (g.P.ParityEngine.state c.args.engine.now) c.args.learned.now.lits c.args.learned.now.back_level told) (lesson_events l)
    g.L.Sink c.args.log.now _ c.tell_lesson.result c.tell_lesson.new.log c.tell_lesson.ensures.log c.tell_lesson.ensures.told
    (learns_then c.args.log.now.formula.now c.args.state.now (g.P.ParityEngine.state c.args.engine.now) c.args.conflict.now.rows (g.L.Sink.items c.args.log.now.sink.now) st
    c.requires.at.above (next_is_id c.args.log.now.formula.now c.args.state.now (g.P.ParityEngine.state c.args.engine.now) _ c.args.conflict.now.rows st.0 st.3).1 c.requires.may.few c.args.conflict.now.lits c.args.conflict.now.id c.requires.at.conflict c.args.learned.now.resolved.items c.args.learned.now.lits c.args.learned.now.back_level c.args.learned.now.lbd c.requires.lesson.teaches c.requires.may.free
    _ refl)

pub returns-clause-log : goal.returns-clause-log
returns-clause-log g c = c.tell_lesson.ensures.log
