use Rattle.search_steps.proofs.CodeSteps.{decision_step_keeps}
use Rattle.search_steps.proofs.laws.decisions_keep.Goals as goal

pub returns : goal.returns
returns c = λ tidies. decision_step_keeps {tidies = tidies}
