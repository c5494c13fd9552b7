use Rattle.search_steps.proofs.EndLaws.{full_is_met}
use Rattle.search_steps.proofs.laws.full_is_met.Goals as goal

pub returns : goal.returns
returns c = λ tidies. full_is_met {tidies = tidies}
