use Rattle.search_steps.proofs.IdLaws.{row_reason_frees_sum}
use Rattle.search_steps.proofs.laws.sums_are_free_again.Goals as goal

pub returns : goal.returns
returns c = row_reason_frees_sum
