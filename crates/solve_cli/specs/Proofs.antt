-- What `elab` leaves on the Proof port: the printed steps of a proof.
use Rattle.std.specs.Prelude.{◌≡◌, ℕ, ◌-◌, List, ◌++◌, length, take, ◌⊎◌}
use Rattle.cx_base.specs.Problem.{Problem}
use Rattle.cx_base.specs.declared.steps.LogStep.{LogStep}
use Rattle.cx_base.specs.declared.steps.ProofStep.{ProofStep}
use Rattle.cx_base.specs.Endings.{Ending}
use Rattle.cx_semantics.specs.Judging.{AcceptedAt, IsOpen}
use Rattle.cx_texts.specs.LogText.{LogReads}
use Rattle.cx_texts.specs.Printed.{printed_proof}
use Rattle.cx_judgements.specs.ProofTexts.{Accepted}
use Rattle.cx_semantics.specs.ProofRules.{proof_calculus}
use Rattle.cx_desk.specs.Outside.{Bytes}
use Rattle.fratx_elab.specs.Elaborates.{IsProofOf}

-- the bytes are the printed proof of the log's first so many steps
pub record IsPrintedProof (formula : Problem) (log : Bytes) (count : ℕ) (steps : List ProofStep) (bytes : Bytes) : Type 0 where
  pub log_steps : List LogStep
  pub ending : Ending
  pub reads : LogReads log log_steps ending
  pub is_proof : IsProofOf formula (take count log_steps) steps
  pub printed : bytes ≡ printed_proof steps

-- the bytes are the proof of the log's first k steps, and it is accepted at its last step
pub record IsWholeProof (formula : Problem) (log : Bytes) (k : ℕ) (bytes : Bytes) : Type 0 where
  pub steps : List ProofStep
  pub proof : IsPrintedProof formula log k steps bytes
  pub accepted : Accepted formula bytes (length steps)

-- the bytes are the proof of the log's steps before step k, each of its steps is right, and none ends it
pub record IsProofBefore (formula : Problem) (log : Bytes) (k : ℕ) (bytes : Bytes) : Type 0 where
  pub steps : List ProofStep
  pub proof : IsPrintedProof formula log (k - 1) steps bytes
  pub right : IsOpen (proof_calculus formula) steps

-- each step is right, and none but the last ends the proof
abbrev pub AreRight : Problem → List ProofStep → Type 0
AreRight formula steps = IsOpen (proof_calculus formula) steps ⊎ AcceptedAt (proof_calculus formula) steps (length steps)

-- the bytes are a prefix of a text all of whose steps are right
pub record IsRightSoFar (formula : Problem) (bytes : Bytes) : Type 0 where
  pub steps : List ProofStep
  pub right : AreRight formula steps
  pub rest : Bytes
  pub front : bytes ++ rest ≡ printed_proof steps
