use Rattle.search_steps.proofs.StartLaws.{clause_begins}
use Rattle.search_steps.proofs.laws.original_clauses_are_told.Goals as goal

pub returns : goal.returns
returns c = clause_begins
