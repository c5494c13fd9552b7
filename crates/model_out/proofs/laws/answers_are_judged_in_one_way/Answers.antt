use Rattle.model_out.proofs.DecidingLaws.{one_answer}
use Rattle.model_out.proofs.laws.answers_are_judged_in_one_way.Goals as goal

pub returns : goal.returns
returns c = one_answer
