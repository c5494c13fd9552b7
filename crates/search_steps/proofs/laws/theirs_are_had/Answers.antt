use Rattle.search_steps.proofs.OverSearch.{theirs_are_had}
use Rattle.search_steps.proofs.laws.theirs_are_had.Goals as goal

pub returns : goal.returns
returns c = theirs_are_had
