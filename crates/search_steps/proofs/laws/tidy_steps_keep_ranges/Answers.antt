use Rattle.search_steps.proofs.TidyIds.{tidy_ranged}
use Rattle.search_steps.proofs.laws.tidy_steps_keep_ranges.Goals as goal

pub returns : goal.returns
returns c = tidy_ranged
