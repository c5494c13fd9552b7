-- What a command may do: which ending is due for its files, and which outcome may come in its place.
use Rattle.std.specs.Prelude.{◌≡◌, ◌<◌, ◌≤◌, ℕ, Bool, true, false, List, [], ◌++◌, length, take, Option, Some, None, IfSome, IsSome, IsTrue, ⊤, ◌⊎◌}
use Rattle.cx_base.specs.Problem.{Problem, Meets, Unmet, clauses_of, parities_of}
use Rattle.cx_base.specs.declared.steps.ProofStep.{ProofStep}
use Rattle.cnfx_reader.specs.PrintedFormula.{printed_formula}
use Rattle.xor_blast.specs.Blasted.{blasted, PassesLimit}
use Rattle.gf2_space.specs.Spaces.{Describes}
use Rattle.cx_texts.specs.FormulaText.{Reads, FirstOffence}
use Rattle.cx_judgements.specs.ProofTexts.{Accepted, RefusedAt}
use Rattle.cx_judgements.specs.LogTexts.{LogRight, LogRefusedAt}
use Rattle.search_steps.specs.Recovering.{SettledWithRecovered}
use Rattle.model_out.specs.Answers.{AnswerReads, AnswerRefusedFor}
use Rattle.model_out.specs.declared.refusal.AnswerRefusal.{AnswerRefusal}
use Rattle.model_out.specs.declared.refusal.AnswerRefusal.TheVariants as refusal
use Rattle.cx_desk.specs.declared.desk.Slot.TheVariants as slot
use Rattle.cx_desk.specs.declared.desk.Port.TheVariants as port
use Rattle.cx_desk.specs.Outside.{Bytes, Files}
use Rattle.cx_words.specs.Words.{Asks, Refuses}
use Rattle.cx_words.specs.declared.plans.Plan.{Plan}
use Rattle.cx_words.specs.declared.plans.Plan.TheVariants as plan
use Rattle.inst_gen.specs.Planting.{planted_formula}
use Rattle.solve_cli.specs.declared.ending.Ending.{Ending}
use Rattle.solve_cli.specs.declared.ending.Ending.TheVariants as ending
use Rattle.solve_cli.specs.declared.ending.WrongAnswer.{WrongAnswer}
use Rattle.solve_cli.specs.declared.ending.WrongAnswer.TheVariants as wrong
use Rattle.solve_cli.specs.declared.ending.Outcome.{Outcome}
use Rattle.solve_cli.specs.declared.ending.Outcome.TheVariants as outcome
use Rattle.solve_cli.specs.declared.ending.Status.{Status}
use Rattle.solve_cli.specs.Endings.{status_of, status_of_ending, answer_text, message_text}
use Rattle.solve_cli.specs.Seen.{Seen, asks_proof, says, ReadFault, WriteFault, MessageFault, text_named}
use Rattle.solve_cli.specs.Proofs.{IsWholeProof, IsProofBefore, IsRightSoFar}
use Rattle.solve_cli.specs.Logs.{IsOpenLog, IsClosedLog, IsSpentLog, IsLogSoFar}
use Rattle.solve_cli.specs.Failed.{FailsAs, NegatesLastStep}
use Rattle.solve_cli.specs.Trimming.{TrimsTo, IsTrimmedProof}
use Rattle.solve_cli.specs.Blasting.{IsBlastedText}
use Rattle.solve_cli.specs.Demo.{instance_of, MayShow, Shows, StandsBehind}
use Rattle.solve_cli.specs.Commands.{formula_of, second_of, proof_of, writes_proof, Stage, formula_started, second_started, proof_created, asked_to, second_text}

-- ---- which ending is due

-- there is a name, and this holds of it
abbrev pub IfNamed : Option Bytes → (Bytes → Type 0) → Type 0
IfNamed None P = ⊥
IfNamed (Some name) P = P name

-- the text is within the limit, and reads to the formula
pub record FormulaRead (limit : ℕ) (text : Bytes) (f : Problem) : Type 0 where
  pub fits : length text ≤ limit
  pub reads : Reads text f

-- the formula that a command makes itself
abbrev pub IsPlanted : Plan → Problem → Type 0
IsPlanted (plan.Demo kind size seed) f = f ≡ planted_formula kind size seed
IsPlanted p f = ⊥

-- there is a name, and this holds of it; or there is none, and that holds
abbrev pub IfNamedElse : Option Bytes → (Bytes → Type 0) → Type 0 → Type 0
IfNamedElse None P Q = Q
IfNamedElse (Some name) P Q = P name

-- the formula of a command
abbrev pub IsFormula : Plan → ℕ → Files → Problem → Type 0
IsFormula p limit files f = IfNamedElse (formula_of p) (λ name. FormulaRead limit (text_named name files) f) (IsPlanted p f)

-- the endings of a formula's text that is not read
abbrev pub EarlyDue : ℕ → Bytes → Ending → Type 0
EarlyDue limit text (ending.FormulaRefused o) = (length text ≤ limit) × FirstOffence text o
EarlyDue limit text (ending.TooLong slot.Formula) = limit < length text
EarlyDue limit text e = ⊥

-- the cause as the reader of answers names it
abbrev pub refusal_of : WrongAnswer → AnswerRefusal
refusal_of wrong.NoStatusLine = refusal.NoStatusLine
refusal_of (wrong.BadToken place) = refusal.BadToken place
refusal_of (wrong.Missing v) = refusal.Missing v
refusal_of (wrong.Twice v) = refusal.Twice v
refusal_of (wrong.Unmet n) = refusal.Unmet n

-- The formula's clauses and those that stand for its parities: this many variables and clauses. No constraint passes the limit of variables.
pub record AreOfBlasted (f : Problem) (variables clauses : ℕ) : Type 0 where
  pub variables_are : variables ≡ (blasted f).variables
  pub clauses_are : clauses ≡ length (clauses_of (blasted f).constraints)
  pub within : (number : ℕ) → ¬ PassesLimit f number

-- what a command makes of a formula and its second text
abbrev pub Judged : Ending → Plan → Problem → Bytes → Type 0
Judged (ending.Verified k) (plan.Check n q) f text = Accepted f text k
Judged (ending.NotVerified k c) (plan.Check n q) f text = RefusedAt f text k c
Judged ending.ModelRight (plan.Model n a) f text = (values : List Bool) × AnswerReads text f values
Judged (ending.ModelWrong w) (plan.Model n a) f text = AnswerRefusedFor text f (refusal_of w)
Judged (ending.Elaborated k) (plan.Elab n l q) f text = LogRight f text k
Judged (ending.NotElaborated k c) (plan.Elab n l q) f text = LogRefusedAt f text k c
Judged (ending.Satisfiable v) (plan.Solve n l c) f text = Meets f v
Judged (ending.Unsatisfiable failed) (plan.Solve n l c) f text = Unmet f × FailsAs f failed
Judged (ending.Unknown k) (plan.Solve n l c) f text = (k ≡ c.conflicts) × ¬ SettledWithRecovered f
Judged (ending.Demonstrated i x) (plan.Demo kind size seed) f text = (i ≡ instance_of kind size seed) × MayShow kind x × Shows f x
Judged (ending.Trimmed core) (plan.Trim n q o) f text = (steps : List ProofStep) × TrimsTo f text steps core
Judged (ending.NotTrimmed k c) (plan.Trim n q o) f text = RefusedAt f text k c
Judged (ending.Blasted variables clauses) (plan.Blast n o) f text = AreOfBlasted f variables clauses
Judged (ending.TooManyVariables k) (plan.Blast n o) f text = PassesLimit f k
Judged (ending.Affine space) (plan.Affine n) f text = Describes f.variables (parities_of f.constraints) space
Judged e p f text = ⊥

-- the endings where the formula is read: its second text's length is judged before what it says
abbrev pub LateDue : Plan → ℕ → Problem → Bytes → Ending → Type 0
LateDue p limit f text e = ((limit < length text) × (e ≡ ending.TooLong slot.Second)) ⊎ ((length text ≤ limit) × Judged e p f text)

-- The ending that is due for these files, in the order of work: the formula's length, its contents,
-- the second text's length, the result.
pub record Late (p : Plan) (limit : ℕ) (files : Files) (e : Ending) : Type 0 where
  pub formula : Problem
  pub is_formula : IsFormula p limit files formula
  pub due : LateDue p limit formula (second_text p files) e

abbrev pub Early : Plan → ℕ → Files → Ending → Type 0
Early p limit files e = IfNamed (formula_of p) (λ name. EarlyDue limit (text_named name files) e)

abbrev pub Due : Plan → ℕ → Files → Ending → Type 0
Due p limit files e = Early p limit files e ⊎ Late p limit files e

-- the text of a command's formula reads, or an ending refuses it
abbrev pub IsEarlyOrRead : Plan → ℕ → Files → Bytes → Type 0
IsEarlyOrRead p limit files name = ((f : Problem) × FormulaRead limit (text_named name files) f) ⊎ ((e : Ending) × Early p limit files e)

-- ---- what is on the Proof port

-- what the Proof port gains before the answer of an ending
abbrev pub Gains : Plan → ℕ → Files → Ending → Bytes → Type 0
Gains (plan.Elab n l q) limit files (ending.Elaborated k) proof = (f : Problem) × FormulaRead limit (text_named n files) f × IsWholeProof f (text_named l files) k proof
Gains (plan.Elab n l q) limit files (ending.NotElaborated k c) proof =
    (f : Problem) × FormulaRead limit (text_named n files) f × IsProofBefore f (text_named l files) k proof
Gains (plan.Elab n l q) limit files (ending.TooLong slot.Second) proof = (f : Problem) × FormulaRead limit (text_named n files) f × IsRightSoFar f proof
Gains (plan.Solve n l c) limit files (ending.Satisfiable v) log = (f : Problem) × FormulaRead limit (text_named n files) f × IsOpenLog f c log
Gains (plan.Solve n l c) limit files (ending.Unsatisfiable failed) log = (f : Problem) × FormulaRead limit (text_named n files) f × IsClosedLog f c log × NegatesLastStep f log failed
Gains (plan.Solve n l c) limit files (ending.Unknown k) log = (f : Problem) × FormulaRead limit (text_named n files) f × IsSpentLog f c log
Gains (plan.Demo kind size seed) limit files (ending.Demonstrated i x) log = StandsBehind (planted_formula kind size seed) log x
Gains (plan.Trim n q o) limit files (ending.Trimmed core) proof = (f : Problem) × FormulaRead limit (text_named n files) f × IsTrimmedProof f (text_named q files) core proof
Gains (plan.Blast n o) limit files (ending.Blasted variables clauses) text = (f : Problem) × FormulaRead limit (text_named n files) f × IsBlastedText f text
Gains p limit files e proof = proof ≡ []

-- the bytes are a prefix of a text
abbrev pub IsPrefixOf : Bytes → Bytes → Type 0
IsPrefixOf text bytes = (rest : Bytes) × (bytes ++ rest ≡ text)

-- what it may have gained where a command is cut off
abbrev pub SoFar : Stage → Plan → ℕ → Files → Bytes → Type 0
SoFar proof_created (plan.Elab n l q) limit files proof = (f : Problem) × FormulaRead limit (text_named n files) f × IsRightSoFar f proof
SoFar proof_created (plan.Solve n l c) limit files log = (f : Problem) × FormulaRead limit (text_named n files) f × IsLogSoFar f log
SoFar proof_created (plan.Demo kind size seed) limit files log = IsLogSoFar (planted_formula kind size seed) log
SoFar proof_created (plan.Trim n q o) limit files proof = (f : Problem) × FormulaRead limit (text_named n files) f × IsRightSoFar f proof
SoFar proof_created (plan.Blast n o) limit files text = (f : Problem) × FormulaRead limit (text_named n files) f × IsPrefixOf (printed_formula (blasted f)) text
SoFar stage p limit files proof = proof ≡ []

-- ---- which outcome may come

abbrev pub FormulaIn : Plan → ℕ → Seen → Type 0
FormulaIn p limit s = IfSome s.files (λ files. (f : Problem) × IsFormula p limit files f)

-- names but the formula's are asked for only where the formula reads, if it has a name
abbrev pub Reaches : Stage → Plan → ℕ → Seen → Type 0
Reaches formula_started p limit s = Unit {0}
Reaches second_started p limit s = FormulaIn p limit s
Reaches proof_created p limit s = FormulaIn p limit s

-- the endings of a formula that is not read
abbrev pub is_early : Ending → Bool
is_early (ending.FormulaRefused o) = true
is_early (ending.TooLong slot.Formula) = true
is_early e = false

-- A formula that would have too many variables in clauses gives the Proof port no file. Every other ending comes after all calls.
abbrev pub end_stage : Ending → Stage
end_stage (ending.FormulaRefused o) = formula_started
end_stage (ending.TooLong slot.Formula) = formula_started
end_stage (ending.TooManyVariables k) = second_started
end_stage e = proof_created

-- the endings of each command, whatever the desk tells
abbrev pub IsOf : Plan → Ending → Type 0
IsOf p (ending.FormulaRefused o) = IsSome (formula_of p)
IsOf p (ending.TooLong slot.Formula) = IsSome (formula_of p)
IsOf p (ending.TooLong slot.Second) = IsSome (second_of p)
IsOf (plan.Check n q) (ending.Verified k) = ⊤
IsOf (plan.Check n q) (ending.NotVerified k c) = ⊤
IsOf (plan.Model n a) ending.ModelRight = ⊤
IsOf (plan.Model n a) (ending.ModelWrong w) = ⊤
IsOf (plan.Elab n l q) (ending.Elaborated k) = ⊤
IsOf (plan.Elab n l q) (ending.NotElaborated k c) = ⊤
IsOf (plan.Solve n l c) (ending.Satisfiable v) = ⊤
IsOf (plan.Solve n l c) (ending.Unsatisfiable failed) = ⊤
IsOf (plan.Solve n l c) (ending.Unknown k) = ⊤
IsOf (plan.Demo kind size seed) (ending.Demonstrated i x) = (i ≡ instance_of kind size seed) × MayShow kind x
IsOf (plan.Trim n q o) (ending.Trimmed core) = ⊤
IsOf (plan.Trim n q o) (ending.NotTrimmed k c) = ⊤
IsOf (plan.Blast n o) (ending.Blasted variables clauses) = ⊤
IsOf (plan.Blast n o) (ending.TooManyVariables k) = ⊤
IsOf (plan.Affine n) (ending.Affine space) = ⊤
IsOf p e = ⊥

-- an ending with all that was asked for and written before its answer
pub record Ends (p : Plan) (limit : ℕ) (old : Seen) (e : Ending) (before : Seen) : Type 0 where
  pub own : IsOf p e
  pub reaches : Reaches (end_stage e) p limit old
  pub due : IfSome old.files (λ files. Due p limit files e)
  pub proof : Bytes
  pub gains : IfSome old.files (λ files. Gains p limit files e proof)
  pub before_is : before ≡ says port.Proof proof (asked_to (end_stage e) p old)

-- a command that was cut off
pub record Stops (p : Plan) (limit : ℕ) (old : Seen) (at : Seen) : Type 0 where
  pub stage : Stage
  pub reaches : Reaches stage p limit old
  pub proof : Bytes
  pub so_far : IfSome old.files (λ files. SoFar stage p limit files proof)
  pub at_is : at ≡ says port.Proof proof (asked_to stage p old)

-- a write of the answer that failed, after a prefix of it
pub record AnswerFails (p : Plan) (limit : ℕ) (old new : Seen) : Type 0 where
  pub ending : Ending
  pub before : Seen
  pub ends : Ends p limit old ending before
  pub count : ℕ
  pub front : count < length (answer_text ending)
  pub fault : WriteFault (says port.Answer (take count (answer_text ending)) before) new

-- `blast` gives the Proof port its file only where the formula in clauses has not too many variables
abbrev pub MayWrite : Plan → ℕ → Seen → Type 0
MayWrite (plan.Blast n o) limit s = IfSome s.files (λ files. (f : Problem) × FormulaRead limit (text_named n files) f × ((number : ℕ) → ¬ PassesLimit f number))
MayWrite p limit s = ⊤

-- the Proof port was not given its file
pub record CreateFails (p : Plan) (limit : ℕ) (old new : Seen) : Type 0 where
  pub name : Bytes
  pub named : proof_of p ≡ Some name
  pub reaches : Reaches second_started p limit old
  pub may_write : MayWrite p limit old
  pub fault : WriteFault (asks_proof name (asked_to second_started p old)) new

-- a write on the Proof port that failed, once the port was given its file
pub record ProofFails (p : Plan) (limit : ℕ) (old new : Seen) : Type 0 where
  pub writes : IsTrue (writes_proof p)
  pub may_write : MayWrite p limit old
  pub at : Seen
  pub stops : Stops p limit old at
  pub created : stops.stage ≡ proof_created
  pub fault : WriteFault at new

-- What happened by an outcome, before its message.
abbrev pub Works : Plan → ℕ → Seen → Outcome → Seen → Type 0
Works p limit old (outcome.Ended e) new = (before : Seen) × Ends p limit old e before × (new ≡ says port.Answer (answer_text e) before)
Works p limit old outcome.ReadFault new = (at : Seen) × Stops p limit old at × ReadFault at new
Works p limit old outcome.WriteFault new = AnswerFails p limit old new ⊎ (CreateFails p limit old new ⊎ ProofFails p limit old new)
Works p limit old outcome.Memory new = Stops p limit old new
Works p limit old outcome.Usage new = ⊥

-- What happened, by the words. Memory may run out while they are read.
abbrev pub WorksFor : List Bytes → ℕ → Seen → Outcome → Seen → Type 0
WorksFor words limit old outcome.Usage new = Refuses words × (new ≡ old)
WorksFor words limit old outcome.Memory new = (new ≡ old) ⊎ ((p : Plan) × Asks words p × Works p limit old outcome.Memory new)
WorksFor words limit old o new = (p : Plan) × Asks words p × Works p limit old o new

-- the message of an outcome, or a prefix of it and a fault of the messages
abbrev pub PutsMessage : Bytes → Seen → Seen → Type 0
PutsMessage text old new = (new ≡ says port.Message text old)
    ⊎ ((k : ℕ) × (k < length text) × MessageFault (says port.Message (take k text) old) new)

-- A run of the program: an outcome with its status, what it did, and then its message.
pub record Runs (words : List Bytes) (limit : ℕ) (old : Seen) (status : Status) (new : Seen) : Type 0 where
  pub outcome : Outcome
  pub status_is : status ≡ status_of outcome
  pub done : Seen
  pub works : WorksFor words limit old outcome done
  pub tells : PutsMessage (message_text outcome) done new

-- what is due, where neither reads nor writes failed
pub record Comes (words : List Bytes) (limit : ℕ) (old : Seen) (s : Status) : Type 0 where
  pub plan : Plan
  pub asked : Asks words plan
  pub ending : Ending
  pub own : IsOf plan ending
  pub status_is : s ≡ status_of_ending ending
  pub due : IfSome old.files (λ files. Due plan limit files ending)
