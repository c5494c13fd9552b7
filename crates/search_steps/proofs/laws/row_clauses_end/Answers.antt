use Rattle.search_steps.proofs.Ends.{row_clause_ends, row_clause_is_marked}
use Rattle.search_steps.proofs.laws.row_clauses_end.Goals as goal

pub returns : goal.returns
returns c = λ tidies formula parities s ok n zs source row a live c ends served. (row_clause_ends formula parities s ok n zs source row a live c ends, row_clause_is_marked formula parities s ok n zs source row served live c)
