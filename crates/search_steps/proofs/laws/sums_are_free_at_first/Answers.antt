use Rattle.search_steps.proofs.IdLaws.{begun_has_free_sums}
use Rattle.search_steps.proofs.laws.sums_are_free_at_first.Goals as goal

pub returns : goal.returns
returns c = begun_has_free_sums
