use Rattle.std.proofs.Common.{ap, ◌∙◌, pos, [], ◌∷◌, ◌++◌}
use Rattle.cdcl_core.proofs.learning.hints_of_lesson.Goals as goal

pub returns : goal.returns
returns c = c.from_vec.ensures ∙ c.in_ok-push_hint.ensures.pushed ∙ ap (λ zs. zs ++ pos c.args.conflict ∷ []) c.in_ok-hints.ensures.hints
