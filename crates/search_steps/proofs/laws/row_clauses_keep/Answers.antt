use Rattle.search_steps.proofs.LogLaws.{row_clause_keeps}
use Rattle.search_steps.proofs.laws.row_clauses_keep.Goals as goal

pub returns : goal.returns
returns c = λ tidies. row_clause_keeps {tidies = tidies}
