-- A step of a proof that is taken from a text's words.
use Rattle.std.specs.Prelude.{ℕ, List, Result, MatchResult}
use Rattle.cx_base.specs.declared.steps.ProofStep.{ProofStep}
use Rattle.cx_texts.specs.Words.{Placed}
use Rattle.cx_texts.specs.ProofText.{proof_fields}
use Rattle.cx_texts.proofs.ProofSteps.{proof_rows}
use Rattle.step_text.specs.declared.source.TextRefusal.{TextRefusal}
use Rattle.step_text.specs.Taking.{Takes, RefusedIn}

abbrev pub TakesStep : ℕ → List Placed → Result ProofStep TextRefusal → List Placed → Type 0
TakesStep size old result new = MatchResult result (λ s. Takes (proof_fields s) old new) (λ r. RefusedIn proof_rows size r old)
