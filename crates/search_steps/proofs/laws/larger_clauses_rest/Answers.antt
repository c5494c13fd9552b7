use Rattle.search_steps.proofs.Stored.{rests_around}
use Rattle.search_steps.proofs.laws.larger_clauses_rest.Goals as goal

pub returns : goal.returns
returns c = rests_around
