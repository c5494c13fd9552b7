use Rattle.search_steps.proofs.IdLaws.{row_ids_are_temporary}
use Rattle.search_steps.proofs.laws.row_ids_are_temporary.Goals as goal

pub returns : goal.returns
returns c = row_ids_are_temporary
