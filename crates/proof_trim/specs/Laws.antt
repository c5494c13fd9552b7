-- The laws of trimmed proofs.
use Rattle.std.specs.Prelude.{◌≡◌, ◌⊎◌, [], ◌∷◌, ℕ, Bool, List, length, IsTrue, ◌↔◌}
use Rattle.cx_base.specs.Problem.{Problem, Unmet, clauses_of, parities_of}
use Rattle.cx_base.specs.declared.steps.ProofStep.{ProofStep}
use Rattle.cx_semantics.specs.Judging.{AcceptedAt}
use Rattle.cx_semantics.specs.ProofRules.{proof_calculus}
use Rattle.proof_trim.specs.Names.{Name, clause, parity}
use Rattle.proof_trim.specs.Needed.{IsClosed, AreNeeded, NamesFormulas, AreCore}
use Rattle.proof_trim.specs.Trimmed.{trimmed, core_of}
use Rattle.proof_trim.specs.Marking.{wants, marks_of, marked}

-- These steps are accepted at their last one, or at once where there is none.
abbrev pub IsRefutation : Problem → List ProofStep → Type 0
IsRefutation formula proof = AcceptedAt (proof_calculus formula) proof (length proof)

-- what stays of an accepted proof is accepted
abbrev pub TrimmedIsAccepted : Type 0
TrimmedIsAccepted = (formula : Problem) (proof : List ProofStep) (needed : ℕ → Bool) → IsRefutation formula proof → IsClosed proof needed → IsRefutation formula (trimmed formula needed proof)

-- what stays is a part of the steps, in their order
abbrev pub IsPartOf : List ProofStep → List ProofStep → Type 0
IsPartOf kept [] = kept ≡ []
IsPartOf kept (s ∷ steps) = IsPartOf kept steps ⊎ ((rest : List ProofStep) × (kept ≡ s ∷ rest) × IsPartOf rest steps)

abbrev pub TrimmedIsAPart : Type 0
TrimmedIsAPart = (formula : Problem) (proof : List ProofStep) (needed : ℕ → Bool) → IsPartOf (trimmed formula needed proof) proof

-- no values meet the constraints of the formula that needed steps name together with its assumption constraints
abbrev pub CoreIsUnmet : Type 0
CoreIsUnmet = (formula : Problem) (proof : List ProofStep) (needed : ℕ → Bool) (clauses parities : List ℕ) → IsRefutation formula proof → IsClosed proof needed
    → AreCore proof needed clause (length (clauses_of formula.constraints)) clauses → AreCore proof needed parity (length (parities_of formula.constraints)) parities
    → Unmet (core_of formula clauses parities)

-- the steps that are marked going back are the needed ones
abbrev pub MarksAreNeeded : Type 0
MarksAreNeeded = (proof : List ProofStep) → AreNeeded proof (marked (marks_of proof))

-- what is wanted before the first step is what needed steps name of the formula
abbrev pub WantedIsNamed : Type 0
WantedIsNamed = (proof : List ProofStep) (name : Name) → IsTrue (wants proof name) ↔ NamesFormulas proof (marked (marks_of proof)) name
