use Rattle.search_steps.proofs.IdLaws.{begun_is_ranged}
use Rattle.search_steps.proofs.laws.begun_is_ranged.Goals as goal

pub returns : goal.returns
returns c = begun_is_ranged
