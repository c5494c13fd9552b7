use Rattle.search_steps.proofs.Ends.{chained_clause_ends, chained_clause_is_marked}
use Rattle.search_steps.proofs.laws.chained_clauses_end.Goals as goal

pub returns : goal.returns
returns c = λ tidies formula parities s ok n zs hints a chain ends served. (chained_clause_ends formula parities s ok n zs hints a chain ends, chained_clause_is_marked formula parities s ok n zs hints served ends)
