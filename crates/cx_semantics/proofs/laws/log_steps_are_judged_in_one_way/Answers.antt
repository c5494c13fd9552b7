use Rattle.cx_semantics.proofs.DecidingLogs.{one_judgement_of_log_steps}
use Rattle.cx_semantics.proofs.laws.log_steps_are_judged_in_one_way.Goals as goal

pub returns : goal.returns
returns c = one_judgement_of_log_steps
