use Rattle.search_steps.proofs.EngineLaws.{known_is_true}
use Rattle.search_steps.proofs.laws.known_is_true.Goals as goal

pub returns : goal.returns
returns c = known_is_true
