use Rattle.std.proofs.Common.{◌∙◌, ap, sym, subst, pos, ◌∷◌, ◌++◌, [], Contains}
use Rattle.cx_base.specs.Integers.{integers_of}
use Rattle.cx_base.specs.declared.steps.LogEvent.TheVariants.{Step}
use Rattle.cx_base.specs.declared.steps.LogStep.TheVariants.{ClauseWithHints}
use Rattle.conflict_learn.specs.declared.learning.Resolved.{Resolved}
use Rattle.search_steps.specs.Hints.{hints_from}
use Rattle.cdcl_search.specs.Deleting.{deletions}
use Rattle.cdcl_search.specs.Tells.{AreIdsFrom, AreStepsOf, IsId}
use Rattle.cdcl_search.specs.Ties.{first_row_id, row_ids}
use Rattle.std.specs.Prelude.{IfOk}
use Rattle.cdcl_core.proofs.learning.steps_of_lesson.Goals as goal

pub hints_of_lesson-requires-clause-ids : goal.hints_of_lesson-requires-clause-ids
hints_of_lesson-requires-clause-ids c = subst (λ rs. (r : Resolved) → Contains rs r → IsId r.id) (sym c.deref.ensures.value) c.requires.resolved

pub steps_of_learned-requires-clause-rows : goal.steps_of_learned-requires-clause-rows
steps_of_learned-requires-clause-rows c = subst (AreIdsFrom (first_row_id c.args.lesson.now.id)) (sym c.len.ensures) c.requires.rows

pub returns : goal.returns
returns c =
    subst (λ n. IfOk c.steps_of_learned.result (λ s. AreStepsOf (Step (ClauseWithHints c.args.lesson.now.id (integers_of c.args.lesson.now.learned.now.lits) (hints_from c.args.lesson.now.learned.now.resolved.items ++ pos c.args.lesson.now.conflict.now.id ∷ [])) ∷ deletions (row_ids (first_row_id c.args.lesson.now.id) n)) s.items)) c.len.ensures
    (subst (λ hints. IfOk c.steps_of_learned.result (λ s. AreStepsOf (Step (ClauseWithHints c.args.lesson.now.id (integers_of c.args.lesson.now.learned.now.lits) hints) ∷ deletions (row_ids (first_row_id c.args.lesson.now.id) c.len.result)) s.items)) (c.in_ok-hints.ensures ∙ ap (λ rs. hints_from rs ++ pos c.args.lesson.now.conflict.now.id ∷ []) c.deref.ensures.value)
    (subst (λ lits. IfOk c.steps_of_learned.result (λ s. AreStepsOf (Step (ClauseWithHints c.args.lesson.now.id (integers_of lits) c.in_ok-hints.hints) ∷ deletions (row_ids (first_row_id c.args.lesson.now.id) c.len.result)) s.items)) c.as_slice.ensures c.steps_of_learned.ensures))
