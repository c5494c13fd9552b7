use Rattle.search_steps.proofs.IdLaws.{next_is_free, row_next_is_free}
use Rattle.search_steps.proofs.laws.next_ids_are_free.Goals as goal

pub returns : goal.returns
returns c = λ formula bound next row_next s i. (next_is_free formula bound next row_next s i, row_next_is_free formula bound next row_next s i)
