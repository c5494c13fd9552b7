use Rattle.search_steps.proofs.Reasons.{forced_is_implied}
use Rattle.search_steps.proofs.laws.forced_is_implied.Goals as goal

pub returns : goal.returns
returns c = forced_is_implied
