use Rattle.search_steps.proofs.Stored.{stored_is_false}
use Rattle.search_steps.proofs.laws.stored_is_false.Goals as goal

pub returns : goal.returns
returns c = stored_is_false
