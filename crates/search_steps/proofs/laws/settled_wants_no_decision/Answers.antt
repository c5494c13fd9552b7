use Rattle.search_steps.proofs.EndLaws.{settled_wants_no_decision}
use Rattle.search_steps.proofs.laws.settled_wants_no_decision.Goals as goal

pub returns : goal.returns
returns c = λ tidies. settled_wants_no_decision {tidies = tidies}
