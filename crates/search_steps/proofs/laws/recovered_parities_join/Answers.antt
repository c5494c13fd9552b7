use Rattle.search_steps.proofs.StartLaws.{recovered_joins}
use Rattle.search_steps.proofs.laws.recovered_parities_join.Goals as goal

pub returns : goal.returns
returns c = λ tidies. recovered_joins {tidies = tidies}
