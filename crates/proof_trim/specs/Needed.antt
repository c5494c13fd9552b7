-- The steps that the last step of a proof needs, and the formula's constraints that these name.
use Rattle.std.specs.Prelude.{◌≡◌, ℕ, suc, ◌+◌, ◌<◌, ◌≤◌, Bool, nat_eq, List, [], ◌∷◌, ◌++◌, length, IsTrue, IsFalse, ◌↔◌}
use Rattle.std.specs.List.{list_any}
use Rattle.cx_base.specs.declared.steps.ProofStep.{ProofStep}
use Rattle.proof_trim.specs.Names.{Name, puts, has_hint}

-- Of the steps before a hint, step j put the constraint that the hint names: it put one under this name, and no step since did.
-- (A hint of a right step is live, so no step since took it out.) An id that is used again after its deletion means the later constraint.
pub record WasPut (before : List ProofStep) (name : Name) (j : ℕ) : Type 0 where
  pub earlier : List ProofStep
  pub step : ProofStep
  pub since : List ProofStep
  pub split : before ≡ earlier ++ step ∷ since
  pub puts_it : IsTrue (puts step name)
  pub stays : IsFalse (list_any (λ s. puts s name) since)
  pub number : j ≡ length earlier + 1

-- no step put anything under the name, so what is there is the formula's
abbrev pub IsFormulas : List ProofStep → Name → Type 0
IsFormulas before name = IsFalse (list_any (λ s. puts s name) before)

-- A set of step numbers that has the last step's, if there is a step, and with a step the number of each step that put what a hint of it names.
pub record IsClosed (proof : List ProofStep) (chosen : ℕ → Bool) : Type 0 where
  pub has_last : 0 < length proof → IsTrue (chosen (length proof))
  pub has_hints : (before later : List ProofStep) (step : ProofStep) (name : Name) (j : ℕ) → proof ≡ before ++ step ∷ later → IsTrue (chosen (length before + 1))
      → IsTrue (has_hint step name) → WasPut before name j → IsTrue (chosen j)

-- the least such set
pub record AreNeeded (proof : List ProofStep) (needed : ℕ → Bool) : Type 0 where
  pub closed : IsClosed proof needed
  pub least : (chosen : ℕ → Bool) → IsClosed proof chosen → (j : ℕ) → IsTrue (needed j) → IsTrue (chosen j)

-- a needed step has this name as a hint, and what is there is the formula's
pub record NamesFormulas (proof : List ProofStep) (needed : ℕ → Bool) (name : Name) : Type 0 where
  pub before : List ProofStep
  pub step : ProofStep
  pub later : List ProofStep
  pub split : proof ≡ before ++ step ∷ later
  pub is_needed : IsTrue (needed (length before + 1))
  pub hint : IsTrue (has_hint step name)
  pub formulas : IsFormulas before name

-- the numbers rise, from a least one up to a greatest one
abbrev pub AreRising : ℕ → ℕ → List ℕ → Type 0
AreRising least greatest [] = Unit {0}
AreRising least greatest (n ∷ numbers) = (least ≤ n) × (n ≤ greatest) × AreRising (suc n) greatest numbers

-- the numbers of the formula's constraints of one kind that needed steps name, rising; the formula has so many of this kind
pub record AreCore (proof : List ProofStep) (needed : ℕ → Bool) (name_of : ℕ → Name) (count : ℕ) (numbers : List ℕ) : Type 0 where
  pub rising : AreRising 1 count numbers
  pub named : (n : ℕ) → 1 ≤ n → n ≤ count → IsTrue (list_any (nat_eq n) numbers) ↔ NamesFormulas proof needed (name_of n)
