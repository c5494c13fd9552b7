use Rattle.search_steps.proofs.EngineLaws.{open_has_no_value}
use Rattle.search_steps.proofs.laws.open_has_no_value.Goals as goal

pub returns : goal.returns
returns c = open_has_no_value
