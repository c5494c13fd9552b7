use Rattle.search_steps.proofs.TidyIds.{tidy_frees_sums}
use Rattle.search_steps.proofs.laws.tidy_steps_keep_sums.Goals as goal

pub returns : goal.returns
returns c = tidy_frees_sums
