use Rattle.search_steps.proofs.EngineLaws.{fresh_holds}
use Rattle.search_steps.proofs.laws.fresh_engines_hold.Goals as goal

pub returns : goal.returns
returns c = fresh_holds
