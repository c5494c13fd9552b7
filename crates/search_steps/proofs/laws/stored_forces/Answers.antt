use Rattle.search_steps.proofs.Stored.{stored_forces}
use Rattle.search_steps.proofs.laws.stored_forces.Goals as goal

pub returns : goal.returns
returns c = stored_forces
