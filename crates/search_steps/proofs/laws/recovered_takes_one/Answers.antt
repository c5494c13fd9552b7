use Rattle.search_steps.proofs.IdLaws.{recovered_has_free_sums}
use Rattle.search_steps.proofs.laws.recovered_takes_one.Goals as goal

pub returns : goal.returns
returns c = recovered_has_free_sums
