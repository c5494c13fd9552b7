use Rattle.search_steps.proofs.Stored.{watched_rests}
use Rattle.search_steps.proofs.laws.stored_rests.Goals as goal

pub returns : goal.returns
returns c = watched_rests
