use Rattle.search_steps.proofs.EngineLaws.{lagging_back}
use Rattle.search_steps.proofs.laws.later_entries_go.Goals as goal

pub returns : goal.returns
returns c = lagging_back
