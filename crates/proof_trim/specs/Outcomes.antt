-- What `trim` answers.
use Rattle.std.specs.Prelude.{◌≡◌, ◌≤◌, ℕ, Bool, List, ◌++◌, length, nat_eq, Result, Ok, Err, ⊤}
use Rattle.std.specs.List.{list_any}
use Rattle.cx_base.specs.Problem.{Problem, clauses_of, parities_of}
use Rattle.cx_base.specs.Endings.{Ending}
use Rattle.cx_base.specs.declared.steps.ProofStep.{ProofStep}
use Rattle.xlrup_check.specs.Verdicts.{IsJudgedBy}
use Rattle.xlrup_check.specs.declared.verdict.Fault.{Fault}
use Rattle.xlrup_check.specs.declared.verdict.Verdict.TheVariants as verdict
use Rattle.proof_rules.specs.declared.live.Kind.{Kind}
use Rattle.proof_trim.specs.Names.{clause, parity}
use Rattle.proof_trim.specs.Needed.{AreNeeded, AreCore, AreRising}
use Rattle.proof_trim.specs.NameSets.{has_name, name_of}
use Rattle.proof_trim.specs.Trimmed.{trimmed}
use Rattle.proof_trim.specs.Laws.{IsRefutation}
use Rattle.proof_trim.specs.declared.names.NameSet.{NameSet}
use Rattle.proof_trim.specs.declared.outcome.Trimmed.{Trimmed}
use Rattle.proof_trim.specs.declared.outcome.TrimOf.{TrimOf}
use Rattle.proof_trim.specs.declared.outcome.TrimOf.TheVariants.{Done, Refused}

-- Done where a checker verifies the proof, and Refused where it refuses it, at this step and for this cause.
abbrev pub AnswersAsJudged : {X : Type 0} → (X → List ProofStep → Ending → Type 0) → Problem → X → TrimOf → Type 0
AnswersAsJudged leaves formula source (Done t) = (k : ℕ) × IsJudgedBy leaves formula source (verdict.Verified k)
AnswersAsJudged leaves formula source (Refused k cause) = IsJudgedBy leaves formula source (verdict.Refused k cause)

-- a fact of what is left of an accepted proof
abbrev pub WhereDone : Result TrimOf Fault → (Trimmed → Type 0) → Type 0
WhereDone (Ok (Done t)) P = P t
WhereDone (Ok (Refused k cause)) P = ⊤
WhereDone (Err fault) P = ⊤

-- The source had these steps left, which are accepted at their last one, or at once where there is none, and maybe others after them.
pub record HasRefutation {X : Type 0} (leaves : X → List ProofStep → Ending → Type 0) (formula : Problem) (source : X) (proof : List ProofStep) : Type 0 where
  pub accepted : IsRefutation formula proof
  pub later : List ProofStep
  pub ending : Ending
  pub left : leaves source (proof ++ later) ending

-- What is left of a proof that ends with its last step: the needed steps and the deletions of what is live among them, and the numbers of
-- the formula's clauses and parities that needed steps name.
pub record Trims (formula : Problem) (proof : List ProofStep) (t : Trimmed) : Type 0 where
  pub needed : ℕ → Bool
  pub are_needed : AreNeeded proof needed
  pub steps : t.steps.steps ≡ trimmed formula needed proof
  pub clauses : AreCore proof needed clause (length (clauses_of formula.constraints)) t.clauses
  pub parities : AreCore proof needed parity (length (parities_of formula.constraints)) t.parities

-- this is left of the proof that the source had
abbrev pub IsTrimOf : {X : Type 0} → (X → List ProofStep → Ending → Type 0) → Problem → X → Trimmed → Type 0
IsTrimOf leaves formula source t = (proof : List ProofStep) × HasRefutation leaves formula source proof × Trims formula proof t

-- the numbers up to this count, rising, whose names are in the set
pub record ListsNames (names : NameSet) (kind : Kind) (count : ℕ) (numbers : List ℕ) : Type 0 where
  pub rising : AreRising 1 count numbers
  pub same : (n : ℕ) → 1 ≤ n → n ≤ count → list_any (nat_eq n) numbers ≡ has_name names (name_of kind n)
