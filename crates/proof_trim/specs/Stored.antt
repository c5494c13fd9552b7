-- Steps as integers, one step after another.
use Rattle.std.specs.Prelude.{◌≡◌, ◌≤◌, ◌++◌, ◌-◌, ℕ, ℤ, pos, nat_eq, if◌then◌else◌, List, [], ◌∷◌, length, map, take, drop, get_or}
use Rattle.cx_base.specs.declared.steps.ProofStep.{ProofStep}
use Rattle.cx_base.specs.declared.steps.ProofStep.TheVariants as step
use Rattle.proof_trim.specs.Heads.{head_of, kind_in, literals_in}
use Rattle.proof_trim.specs.Integers.{part, signed, unsigned}
use Rattle.proof_trim.specs.declared.head.StepKind.{StepKind}
use Rattle.proof_trim.specs.declared.head.StepKind.TheVariants as kind
use Rattle.proof_trim.specs.declared.head.StepHead.{StepHead}

-- ---- a step as integers

-- a step's head, id and two lists
abbrev pub listed : StepKind → ℕ → List ℤ → List ℤ → List ℤ
listed k n xs ys = signed (head_of k (length xs)) ∷ signed n ∷ (xs ++ ys)

-- the integers of a step; of a deletion the second list has the ids
abbrev pub packed : ProofStep → List ℤ
packed (step.Clause n lits hints) = listed kind.Clause n lits hints
packed (step.DeleteClauses n ids) = listed kind.DeleteClauses n [] (map signed ids)
packed (step.Parity n lits hints) = listed kind.Parity n lits hints
packed (step.DeleteParities ids) = listed kind.DeleteParities 0 [] (map signed ids)
packed (step.ClauseOfParity n lits hint) = listed kind.ClauseOfParity n lits (hint ∷ [])
packed (step.ParityOfClauses n lits hints) = listed kind.ParityOfClauses n lits hints

-- ---- and back

abbrev pub first_of : List ℤ → ℤ
first_of [] = pos 0
first_of (z ∷ zs) = z

-- a step of this kind, of its id and two lists, or of the ids that it deletes
abbrev pub step_by : StepKind → ℕ → List ℤ → List ℤ → List ℕ → ProofStep
step_by kind.Clause n lits hints ids = step.Clause n lits hints
step_by kind.DeleteClauses n lits hints ids = step.DeleteClauses n ids
step_by kind.Parity n lits hints ids = step.Parity n lits hints
step_by kind.DeleteParities n lits hints ids = step.DeleteParities ids
step_by kind.ClauseOfParity n lits hints ids = step.ClauseOfParity n lits (first_of hints)
step_by kind.ParityOfClauses n lits hints ids = step.ParityOfClauses n lits hints

-- the step of these integers
abbrev pub unpacked : List ℤ → ProofStep
unpacked (h ∷ n ∷ zs) =
    let middle = literals_in (unsigned h) in step_by (kind_in (unsigned h)) (unsigned n) (take middle zs) (drop middle zs) (map unsigned zs)
unpacked [] = step.DeleteParities []
unpacked (h ∷ []) = step.DeleteParities []

-- ---- steps one after another

-- these are the integers of a step, and no more than so many
pub record IsPacked (most : ℕ) (zs : List ℤ) : Type 0 where
  pub step : ProofStep
  pub is : zs ≡ packed step
  pub short : length zs ≤ most

-- From start on the integers are those of steps, each of which ends at the next of the ends, the last one where the integers end.
abbrev pub AreStored : List ℤ → ℕ → List ℤ → ℕ → Type 0
AreStored zs start [] most = start ≡ length zs
AreStored zs start (e ∷ ends) most = (start ≤ unsigned e) × (unsigned e ≤ length zs) × IsPacked most (part zs start (unsigned e)) × AreStored zs (unsigned e) ends most

-- these steps
abbrev pub steps_at : List ℤ → ℕ → List ℤ → List ProofStep
steps_at zs start [] = []
steps_at zs start (e ∷ ends) = unpacked (part zs start (unsigned e)) ∷ steps_at zs (unsigned e) ends

-- where the step at a place begins
abbrev pub start_at : ℕ → List ℤ → ℕ → ℕ
start_at start ends place = if nat_eq place 0 then start else unsigned (get_or ends (place - 1) (pos 0))

-- ---- a step that is taken out

-- a step, and the room for the integers of another in its place
pub record Opened : Type 0 where
  pub step : ProofStep
  pub room : ℕ

-- there is room for the integers of the step
abbrev pub FitsIn : ℕ → ProofStep → Type 0
FitsIn room s = length (packed s) ≤ room

-- the step of a head, an id and the lists, which have so many integers
abbrev pub step_from : StepHead → ℕ → ℕ → List ℤ → List ℕ → ProofStep
step_from h id len zs ids = step_by h.kind id (take h.literals zs) (part zs h.literals len) (take len ids)
