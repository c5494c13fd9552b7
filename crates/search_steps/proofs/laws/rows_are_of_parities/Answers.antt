use Rattle.search_steps.proofs.RowLaws.{row_is_of_parities}
use Rattle.search_steps.proofs.laws.rows_are_of_parities.Goals as goal

pub returns : goal.returns
returns c = row_is_of_parities
