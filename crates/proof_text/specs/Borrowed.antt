-- Borrowed steps, as steps.
use Rattle.cx_base.specs.declared.steps.ProofStep.{ProofStep}
use Rattle.cx_base.specs.declared.steps.ProofStep.TheVariants as step
use Rattle.proof_text.specs.declared.step_ref.StepRef.{StepRef}
use Rattle.proof_text.specs.declared.step_ref.StepRef.TheVariants as borrowed

-- the step with the lists that are borrowed
abbrev pub step_of : StepRef → ProofStep
step_of (borrowed.Clause n lits hints) = step.Clause n lits.now hints.now
step_of (borrowed.DeleteClauses n names) = step.DeleteClauses n names.now
step_of (borrowed.Parity n lits hints) = step.Parity n lits.now hints.now
step_of (borrowed.DeleteParities names) = step.DeleteParities names.now
step_of (borrowed.ClauseOfParity n lits hint) = step.ClauseOfParity n lits.now hint
step_of (borrowed.ParityOfClauses n lits hints) = step.ParityOfClauses n lits.now hints.now
