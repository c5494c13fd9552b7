use Rattle.search_steps.proofs.QuietLaws.{implied_rests}
use Rattle.search_steps.proofs.laws.implied_clauses_rest.Goals as goal

pub returns : goal.returns
returns c = implied_rests
