use Rattle.cx_judgements.proofs.OneJudgement.{one_proof_judgement}
use Rattle.cx_judgements.proofs.laws.proofs_are_judged_in_one_way.Goals as goal

pub returns : goal.returns
returns c = one_proof_judgement
