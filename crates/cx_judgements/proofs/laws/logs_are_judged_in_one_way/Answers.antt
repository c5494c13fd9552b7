use Rattle.cx_judgements.proofs.OneJudgement.{one_log_judgement}
use Rattle.cx_judgements.proofs.laws.logs_are_judged_in_one_way.Goals as goal

pub returns : goal.returns
returns c = one_log_judgement
