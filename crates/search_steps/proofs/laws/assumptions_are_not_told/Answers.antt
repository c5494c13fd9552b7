use Rattle.search_steps.proofs.StartLaws.{assumption_begins}
use Rattle.search_steps.proofs.laws.assumptions_are_not_told.Goals as goal

pub returns : goal.returns
returns c = assumption_begins
