use Rattle.search_steps.proofs.OverSearch.{propagated_search}
use Rattle.search_steps.proofs.laws.propagations_keep.Goals as goal

pub returns : goal.returns
returns c = λ tidies. propagated_search {tidies = tidies}
