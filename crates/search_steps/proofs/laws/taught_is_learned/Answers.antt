use Rattle.search_steps.specs.Hints.{IsNamedBy}
use Rattle.search_steps.proofs.OverSearch.{taught_by_search}
use Rattle.search_steps.proofs.laws.taught_is_learned.Goals as goal

pub returns : goal.returns
returns c = λ tidies formula parities s ok t f above conflict resolved lits back lbd. taught_by_search formula parities s ok t f above conflict (IsNamedBy s.moment.tables.clauses) resolved lits back lbd
