use Rattle.std.proofs.Common.{◌∙◌, [], ◌∷◌, sym, subst}
use Rattle.std.specs.List.{AllByRecursion}
use Rattle.std.proofs.lemmas.Result.{IfOk-weaker}
use Rattle.clause_tidy.specs.Telling.{IsTellable}
use Rattle.clause_tidy.proofs.shortening.shortening_steps.Goals as goal

pub returns-in-Ok-clause-steps : goal.returns-in-Ok-clause-steps
returns-in-Ok-clause-steps c =
    IfOk-weaker c.four.result _ _
    (λ all is. is ∙ (λ i. c.in_ok-strengthened.ensures.is i ∷ c.deletion-old_goes.ensures.is i ∷ c.in-Ok.ensures.copied.is i ∷ c.deletion-spare_goes.ensures.is i ∷ [])) c.four.ensures

pub returns-in-Ok-clause-texts : goal.returns-in-Ok-clause-texts
returns-in-Ok-clause-texts c =
    IfOk-weaker c.four.result _ _
    (λ all is. subst (AllByRecursion IsTellable) (sym is) (c.in_ok-strengthened.ensures.text, (c.deletion-old_goes.ensures.text, (c.in-Ok.ensures.copied.text, (c.deletion-spare_goes.ensures.text, tt))))) c.four.ensures
