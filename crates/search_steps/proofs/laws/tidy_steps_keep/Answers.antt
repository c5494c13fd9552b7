use Rattle.search_steps.proofs.TidySteps.{tidy_steps_keep}
use Rattle.search_steps.proofs.laws.tidy_steps_keep.Goals as goal

pub returns : goal.returns
returns c = tidy_steps_keep
