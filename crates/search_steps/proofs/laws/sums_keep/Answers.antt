use Rattle.search_steps.proofs.LogLaws.{live_sum_keeps}
use Rattle.search_steps.proofs.laws.sums_keep.Goals as goal

pub returns : goal.returns
returns c = λ tidies. live_sum_keeps {tidies = tidies}
