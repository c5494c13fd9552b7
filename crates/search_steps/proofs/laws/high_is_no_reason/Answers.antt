use Rattle.search_steps.proofs.IdLaws.{high_is_no_reason}
use Rattle.search_steps.proofs.laws.high_is_no_reason.Goals as goal

pub returns : goal.returns
returns c = high_is_no_reason
