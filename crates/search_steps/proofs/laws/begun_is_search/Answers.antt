use Rattle.search_steps.proofs.StartLaws.{begun_is_search}
use Rattle.search_steps.proofs.laws.begun_is_search.Goals as goal

pub returns : goal.returns
returns c = λ tidies. begun_is_search {tidies = tidies}
