use Rattle.search_steps.proofs.CodeSteps.{clause_step_keeps}
use Rattle.search_steps.proofs.laws.clause_steps_keep.Goals as goal

pub returns : goal.returns
returns c = λ tidies. clause_step_keeps {tidies = tidies}
