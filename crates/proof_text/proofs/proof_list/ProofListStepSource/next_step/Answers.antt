use Rattle.std.proofs.Common.{rules}
use Rattle.proof_text.proofs.proof_list.ProofListStepSource.next_step.Goals as goal

pub returns-in-Some-clause-frame : goal.returns-in-Some-clause-frame
returns-in-Some-clause-frame c = search rules

pub returns-in-Some-clause-step : goal.returns-in-Some-clause-step
returns-in-Some-clause-step c = search rules
