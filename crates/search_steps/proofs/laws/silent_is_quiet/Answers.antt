use Rattle.search_steps.proofs.EngineLaws.{silent_is_quiet}
use Rattle.search_steps.proofs.laws.silent_is_quiet.Goals as goal

pub returns : goal.returns
returns c = silent_is_quiet
