use Rattle.cx_semantics.proofs.Deciding.{one_judgement_of_proof_steps}
use Rattle.cx_semantics.proofs.laws.proof_steps_are_judged_in_one_way.Goals as goal

pub returns : goal.returns
returns c = one_judgement_of_proof_steps
