use Rattle.search_steps.proofs.Ends.{ended_is_unmet}
use Rattle.search_steps.proofs.laws.ended_is_unmet.Goals as goal

pub returns : goal.returns
returns c = ended_is_unmet
