use Rattle.search_steps.proofs.UnitSteps.{watched_quiet}
use Rattle.search_steps.proofs.laws.watched_is_quiet.Goals as goal

pub returns : goal.returns
returns c = watched_quiet
