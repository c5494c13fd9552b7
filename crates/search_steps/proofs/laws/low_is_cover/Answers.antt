use Rattle.search_steps.proofs.IdLaws.{low_is_cover}
use Rattle.search_steps.proofs.laws.low_is_cover.Goals as goal

pub returns : goal.returns
returns c = low_is_cover
