use Rattle.search_steps.proofs.OverSearch.{false_by_units}
use Rattle.search_steps.proofs.laws.falsified_has_chain.Goals as goal

pub returns : goal.returns
returns c = λ tidies. false_by_units {tidies = tidies}
