-- Which texts are accepted as proofs.
use Rattle.std.specs.Prelude.{ℕ, List}
use Rattle.cx_base.specs.Problem.{Problem}
use Rattle.cx_semantics.specs.declared.cause.Cause.{Cause}
use Rattle.cx_base.specs.declared.steps.ProofStep.{ProofStep}
use Rattle.cx_base.specs.Endings.{Ending}
use Rattle.cx_texts.specs.ProofText.{ProofReads}
use Rattle.cx_semantics.specs.Judging.{Judgement, accepted, refused, JudgedAs}
use Rattle.cx_semantics.specs.ProofRules.{proof_calculus}

-- the judgement of a proof's text: by its steps and its ending
pub record ProofJudgedAs (formula : Problem) (text : List ℕ) (judgement : Judgement) : Type 0 where
  pub steps : List ProofStep
  pub ending : Ending
  pub reads : ProofReads text steps ending
  pub judged : JudgedAs (proof_calculus formula) steps ending judgement

abbrev pub Accepted : Problem → List ℕ → ℕ → Type 0
Accepted formula text k = ProofJudgedAs formula text (accepted k)

abbrev pub RefusedAt : Problem → List ℕ → ℕ → Cause → Type 0
RefusedAt formula text k cause = ProofJudgedAs formula text (refused k cause)
