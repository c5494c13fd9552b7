-- Each proof and each log is judged in exactly one way.
use Rattle.std.proofs.Common.{subst, ℕ, List}
use Rattle.cx_base.specs.Problem.{Problem}
use Rattle.cx_base.specs.declared.steps.ProofStep.{ProofStep}
use Rattle.cx_base.specs.declared.steps.LogStep.{LogStep}
use Rattle.cx_base.specs.ExactlyOne.{ExactlyOne}
use Rattle.cx_base.specs.Endings.{Ending}
use Rattle.cx_semantics.specs.Judging.{JudgedAs}
use Rattle.cx_semantics.specs.ProofRules.{proof_calculus}
use Rattle.cx_judgements.specs.ProofTexts.{ProofJudgedAs}
use Rattle.cx_semantics.specs.LogRules.{log_calculus}
use Rattle.cx_judgements.specs.LogTexts.{LogJudgedAs}
use Rattle.cx_texts.proofs.TextLaws.{one_proof_reading, one_log_reading}
use Rattle.cx_semantics.proofs.Deciding.{one_judgement_of_proof_steps}
use Rattle.cx_semantics.proofs.DecidingLogs.{one_judgement_of_log_steps}

pub one_proof_judgement : (formula : Problem) (text : List ℕ) → ExactlyOne (ProofJudgedAs formula text)
one_proof_judgement formula text =
    let r = one_proof_reading text in
    let j = one_judgement_of_proof_steps formula r.0.0 r.0.1 in (
      j.0,
      record { steps = r.0.0; ending = r.0.1; reads = r.1; judged = j.1 },
      λ y h. let e = r.2 (h.steps, h.ending) h.reads in j.2 y (subst (λ (x : List ProofStep × Ending). JudgedAs (proof_calculus formula) x.0 x.1 y) e h.judged),
    )

pub one_log_judgement : (formula : Problem) (text : List ℕ) → ExactlyOne (LogJudgedAs formula text)
one_log_judgement formula text =
    let r = one_log_reading text in
    let j = one_judgement_of_log_steps formula r.0.0 r.0.1 in (
      j.0,
      record { steps = r.0.0; ending = r.0.1; reads = r.1; judged = j.1 },
      λ y h. let e = r.2 (h.steps, h.ending) h.reads in j.2 y (subst (λ (x : List LogStep × Ending). JudgedAs (log_calculus formula) x.0 x.1 y) e h.judged),
    )
