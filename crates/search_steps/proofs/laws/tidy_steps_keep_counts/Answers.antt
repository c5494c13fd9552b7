use Rattle.search_steps.proofs.TidyCounts.{tidy_counts}
use Rattle.search_steps.proofs.laws.tidy_steps_keep_counts.Goals as goal

pub returns : goal.returns
returns c = tidy_counts
