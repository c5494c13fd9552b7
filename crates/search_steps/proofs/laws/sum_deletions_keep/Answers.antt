use Rattle.search_steps.proofs.LogLaws.{delete_sum_keeps}
use Rattle.search_steps.proofs.laws.sum_deletions_keep.Goals as goal

pub returns : goal.returns
returns c = λ tidies. delete_sum_keeps {tidies = tidies}
