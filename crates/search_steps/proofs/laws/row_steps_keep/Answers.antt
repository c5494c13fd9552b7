use Rattle.search_steps.proofs.CodeSteps.{row_step_keeps}
use Rattle.search_steps.proofs.laws.row_steps_keep.Goals as goal

pub returns : goal.returns
returns c = λ tidies. row_step_keeps {tidies = tidies}
