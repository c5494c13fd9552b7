use Rattle.search_steps.proofs.EngineLaws.{assign_holds}
use Rattle.search_steps.proofs.laws.assigned_values_hold.Goals as goal

pub returns : goal.returns
returns c = assign_holds
