-- A proof whose steps were recorded, and what comes of it.
use Rattle.std.proofs.Common.{◌≡◌, ◌∙◌, sym, subst, ℕ, List}
use Rattle.cx_base.specs.Problem.{Problem, Unmet}
use Rattle.cx_base.specs.Endings.{Ending}
use Rattle.cx_base.specs.declared.steps.ProofStep.{ProofStep}
use Rattle.xlrup_check.specs.Verdicts.{IsRefutationIn, RecordsAll}
use Rattle.xlrup_check.specs.declared.verdict.Verdict.{Verdict}
use Rattle.xlrup_check.specs.declared.verdict.Verdict.TheVariants.{Verified}
use Rattle.proof_trim.specs.Laws.{IsRefutation}
use Rattle.proof_trim.specs.Outcomes.{HasRefutation, Trims}
use Rattle.proof_trim.specs.Trimmed.{core_of}
use Rattle.proof_trim.specs.declared.outcome.Trimmed.{Trimmed}
use Rattle.proof_trim.proofs.TrimLaws.{trimmed_is_accepted, core_is_unmet}

module _ {X : Type 0} (formula : Problem) (may_read : List ℕ → Type 0) (leaves : X → List ℕ → List ProofStep → Ending → Type 0) (source : X) where
  -- the steps of a store that was told those of a verified proof
  pub stored_refutation : (store proof : List ProofStep) (k : ℕ) (verdict : Verdict) → proof ≡ store → verdict ≡ Verified k → RecordsAll may_read leaves (λ steps. store ≡ steps) formula source verdict
      → IsRefutationIn may_read leaves formula source proof
  stored_refutation store proof k verdict same is recorded =
      let r = subst (λ (v : Verdict). RecordsAll may_read leaves (λ steps. store ≡ steps) formula source v) is recorded in
      subst (λ (x : List ProofStep). IsRefutationIn may_read leaves formula source x) (sym (same ∙ r.1)) r.2

  -- they were left of each text that the source may have read
  pub has_refutation : (proof : List ProofStep) → IsRefutationIn may_read leaves formula source proof → (text : List ℕ) → may_read text → HasRefutation (λ a. leaves a text) formula source proof
  has_refutation proof r text may = let l = r.left text may in record { accepted = r.accepted; later = l.0; ending = l.1; left = l.2 }

module _ (formula : Problem) (proof : List ProofStep) (accepted : IsRefutation formula proof) (t : Trimmed) (trims : Trims formula proof t) where
  pub kept_is_accepted : IsRefutation formula t.steps.steps
  kept_is_accepted = subst (λ (x : List ProofStep). IsRefutation formula x) (sym trims.steps) (trimmed_is_accepted formula proof trims.needed accepted trims.are_needed.closed)

  pub core_has_no_values : Unmet (core_of formula t.clauses t.parities)
  core_has_no_values = core_is_unmet formula proof trims.needed t.clauses t.parities accepted trims.are_needed.closed trims.clauses trims.parities
