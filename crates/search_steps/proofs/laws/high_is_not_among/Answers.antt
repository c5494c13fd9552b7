use Rattle.search_steps.proofs.IdLaws.{high_is_not_among}
use Rattle.search_steps.proofs.laws.high_is_not_among.Goals as goal

pub returns : goal.returns
returns c = high_is_not_among
