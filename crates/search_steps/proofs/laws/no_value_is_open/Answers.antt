use Rattle.search_steps.proofs.EngineLaws.{no_value_is_open}
use Rattle.search_steps.proofs.laws.no_value_is_open.Goals as goal

pub returns : goal.returns
returns c = no_value_is_open
