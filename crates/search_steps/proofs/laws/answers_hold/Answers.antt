use Rattle.search_steps.proofs.EngineLaws.{answer_holds}
use Rattle.search_steps.proofs.laws.answers_hold.Goals as goal

pub returns : goal.returns
returns c = answer_holds
