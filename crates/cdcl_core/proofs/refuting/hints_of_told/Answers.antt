use Rattle.std.proofs.Common.{◌≡◌, ◌∙◌, sym, subst, pos, [], ◌∷◌, ◌++◌, Contains}
use Rattle.std.specs.Prelude.{IfOk}
use Rattle.conflict_learn.specs.declared.learning.Resolved.{Resolved}
use Rattle.search_steps.specs.Hints.{hints_from}
use Rattle.cdcl_search.specs.Tells.{IsId}
use Rattle.cdcl_core.proofs.refuting.hints_of_told.Goals as goal

pub hints_of_lesson-requires-clause-ids : goal.hints_of_lesson-requires-clause-ids
hints_of_lesson-requires-clause-ids c = subst (λ rs. (r : Resolved) → Contains rs r → IsId r.id) (sym (c.deref.ensures.value ∙ c.in_ok-told.ensures)) c.requires.ids

pub returns : goal.returns
returns c = subst (λ rs. IfOk c.hints_of_lesson.result (λ hints. hints ≡ hints_from rs ++ pos c.args.conflict ∷ [])) (c.deref.ensures.value ∙ c.in_ok-told.ensures) c.hints_of_lesson.ensures
