use Rattle.cx_texts.proofs.ProofSteps.{no_more}
use Rattle.proof_text.proofs.steps.ProofGrammarStepGrammar.is_closed.Goals as goal

pub returns : goal.returns
returns c closed ws next step = no_more c.args._step.now ws next step
