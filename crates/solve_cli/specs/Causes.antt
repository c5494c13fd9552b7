-- What each status says of the words and the files: the causes of the answers.
use Rattle.std.specs.Prelude.{◌≡◌, ◌<◌, ◌≤◌, ℕ, Bool, List, [], length, Option, IfSome, ◌⊎◌}
use Rattle.cx_base.specs.Problem.{Problem, Meets, Unmet}
use Rattle.cx_texts.specs.declared.offence.Offence.{Offence}
use Rattle.cx_texts.specs.declared.offence.Offence.TheVariants as offence
use Rattle.cx_semantics.specs.declared.cause.Cause.{Cause}
use Rattle.cx_texts.specs.FormulaText.{FirstOffence}
use Rattle.cx_judgements.specs.ProofTexts.{Accepted, RefusedAt}
use Rattle.cx_judgements.specs.LogTexts.{LogRight, LogRefusedAt}
use Rattle.model_out.specs.Answers.{AnswerReads, AnswerRefusedFor}
use Rattle.cx_desk.specs.Outside.{Bytes, Files}
use Rattle.cx_words.specs.Words.{Asks}
use Rattle.cx_words.specs.declared.plans.Plan.{Plan}
use Rattle.cx_words.specs.declared.plans.Plan.TheVariants as plan
use Rattle.cx_words.specs.declared.plans.SearchOptions.{SearchOptions}
use Rattle.xor_blast.specs.Blasted.{PassesLimit}
use Rattle.solve_cli.specs.declared.ending.WrongAnswer.{WrongAnswer}
use Rattle.solve_cli.specs.declared.ending.Status.TheVariants as status
use Rattle.solve_cli.specs.Endings.{status_of_offence}
use Rattle.solve_cli.specs.Seen.{Seen, text_named}
use Rattle.solve_cli.specs.Commands.{formula_of, second_text}
use Rattle.solve_cli.specs.Happens.{IfNamed, FormulaRead, refusal_of}
use Rattle.solve_cli.specs.Proofs.{IsWholeProof, IsProofBefore}

-- the named file is within the limit and reads to a formula of which this holds
abbrev pub OfFormula : ℕ → Bytes → Files → (Problem → Type 0) → Type 0
OfFormula limit name files Holds = (f : Problem) × FormulaRead limit (text_named name files) f × Holds f

-- the bytes on the Proof port
abbrev pub OnProof : Seen → (Bytes → Type 0) → Type 0
OnProof s Holds = Holds s.written.proof

-- 3: the formula's text is within the limit, and its first offence is none of the limit on variables
abbrev pub IsFormulaRefused : List Bytes → ℕ → Seen → Type 0
IsFormulaRefused words limit old = (p : Plan) × Asks words p × IfSome old.files (λ files. IfNamed (formula_of p) (λ name.
    (o : Offence) × (status_of_offence o ≡ status.FormulaRefused) × (length (text_named name files) ≤ limit) × FirstOffence (text_named name files) o))

-- the formula in clauses would have too many variables, for which it is written
abbrev pub HasTooManyVariables : Plan → Problem → Type 0
HasTooManyVariables (plan.Blast name out) f = (number : ℕ) × PassesLimit f number
HasTooManyVariables p f = ⊥

-- The first offence of the formula's text is a variable above the limit; or that text or the second one is too long; or the formula in
-- clauses would have too many variables.
abbrev pub IsPastLimit : Plan → ℕ → Files → Bytes → Type 0
IsPastLimit p limit files name =
    ((place : ℕ) × (length (text_named name files) ≤ limit) × FirstOffence (text_named name files) (offence.VarLimit place))
    ⊎ ((limit < length (text_named name files)) ⊎ OfFormula limit name files (λ f. (limit < length (second_text p files)) ⊎ HasTooManyVariables p f))

-- 9
abbrev pub IsOverLimit : List Bytes → ℕ → Seen → Type 0
IsOverLimit words limit old = (p : Plan) × Asks words p × IfSome old.files (λ files. IfNamed (formula_of p) (λ name. IsPastLimit p limit files name))

-- the words ask for `check`; or for `trim`, and nothing is on the Proof port
abbrev pub JudgesWithoutOutput : List Bytes → Bytes → Bytes → Seen → Seen → Type 0
JudgesWithoutOutput words name proof old new =
    Asks words (plan.Check name proof) ⊎ ((out : Bytes) × Asks words (plan.Trim name proof out) × IfSome old.files (λ _. OnProof new (λ bytes. bytes ≡ [])))

-- 7: `check` or `trim`, and the proof is refused at a step for its first cause
abbrev pub IsProofRefused : List Bytes → ℕ → Seen → Seen → Type 0
IsProofRefused words limit old new = (name : Bytes) × (proof : Bytes) × JudgesWithoutOutput words name proof old new
    × IfSome old.files (λ files. OfFormula limit name files (λ f. (k : ℕ) × (c : Cause) × RefusedAt f (text_named proof files) k c))

-- 8: `elab`, and the log is refused at a step for its first cause; the Proof port holds the proof of the steps before
abbrev pub IsLogRefused : List Bytes → ℕ → Seen → Seen → Type 0
IsLogRefused words limit old new = (name : Bytes) × (log : Bytes) × (proof : Bytes) × Asks words (plan.Elab name log proof)
    × IfSome old.files (λ files. OfFormula limit name files (λ f. (k : ℕ) × (c : Cause) × LogRefusedAt f (text_named log files) k c × OnProof new (IsProofBefore f (text_named log files) k)))

-- 11: `model`, and the printed values are refused for the first cause
abbrev pub IsAnswerRefused : List Bytes → ℕ → Seen → Type 0
IsAnswerRefused words limit old = (name : Bytes) × (answer : Bytes) × Asks words (plan.Model name answer)
    × IfSome old.files (λ files. OfFormula limit name files (λ f. (w : WrongAnswer) × AnswerRefusedFor (text_named answer files) f (refusal_of w)))

-- 10 and 20 are of `solve`
abbrev pub IsOfSolve : List Bytes → Type 0
IsOfSolve words = (name : Bytes) × (log : Option Bytes) × (options : SearchOptions) × Asks words (plan.Solve name log options)

-- 0 of `check`: the proof is accepted, and no values meet the formula
abbrev pub IsVerified : List Bytes → ℕ → Seen → Type 0
IsVerified words limit old = (name proof : Bytes) → Asks words (plan.Check name proof)
    → IfSome old.files (λ files. OfFormula limit name files (λ f. Unmet f × ((k : ℕ) × Accepted f (text_named proof files) k)))

-- 0 of `elab`: the log is right, and the Proof port holds its proof, which is accepted
abbrev pub IsElaborated : List Bytes → ℕ → Seen → Seen → Type 0
IsElaborated words limit old new = (name log proof : Bytes) → Asks words (plan.Elab name log proof)
    → IfSome old.files (λ files. OfFormula limit name files (λ f. (k : ℕ) × LogRight f (text_named log files) k × OnProof new (IsWholeProof f (text_named log files) k)))

-- 0 of `model`: the printed values meet the formula
abbrev pub IsModelRight : List Bytes → ℕ → Seen → Type 0
IsModelRight words limit old = (name answer : Bytes) → Asks words (plan.Model name answer)
    → IfSome old.files (λ files. OfFormula limit name files (λ f. (values : List Bool) × Meets f values × AnswerReads (text_named answer files) f values))
