use Rattle.search_steps.proofs.EngineLaws.{push_holds}
use Rattle.search_steps.proofs.laws.new_levels_hold.Goals as goal

pub returns : goal.returns
returns c = push_holds
