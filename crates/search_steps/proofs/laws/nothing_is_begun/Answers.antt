use Rattle.search_steps.proofs.StartLaws.{nothing_is_begun}
use Rattle.search_steps.proofs.laws.nothing_is_begun.Goals as goal

pub returns : goal.returns
returns c = nothing_is_begun
