use Rattle.search_steps.proofs.IdLaws.{high_is_spared}
use Rattle.search_steps.proofs.laws.high_is_spared.Goals as goal

pub returns : goal.returns
returns c = λ formula bound next row_next s i tidies. high_is_spared formula bound next row_next s i {tidies = tidies}
