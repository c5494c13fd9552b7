use Rattle.search_steps.proofs.IdLaws.{risen_ranged}
use Rattle.search_steps.proofs.laws.bounds_rise.Goals as goal

pub returns : goal.returns
returns c = risen_ranged
