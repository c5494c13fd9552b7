use Rattle.search_steps.proofs.StartLaws.{parity_begins}
use Rattle.search_steps.proofs.laws.original_parities_are_told.Goals as goal

pub returns : goal.returns
returns c = parity_begins
