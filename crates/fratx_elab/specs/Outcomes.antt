-- What the elaborator answers, and what it wrote.
use Rattle.std.specs.Prelude.{◌≡◌, ℕ, ◌+◌, ◌-◌, Bool, true, false, List, ◌++◌, length, take, Option, Some, None, Result, Ok, Err, IsFalse, ⊤}
use Rattle.cx_base.specs.Problem.{Problem}
use Rattle.cx_base.specs.Assumptions.{clashes}
use Rattle.cx_base.specs.declared.steps.LogStep.{LogStep}
use Rattle.cx_base.specs.declared.steps.ProofStep.{ProofStep}
use Rattle.cx_semantics.specs.declared.cause.Cause.TheVariants as causes
use Rattle.cx_base.specs.Endings.{Ending}
use Rattle.cx_semantics.specs.Judging.{Judgement, accepted, refused, IsRight, Runs, AcceptedAt, IsOpen, JudgedAs}
use Rattle.cx_semantics.specs.LogRules.{log_calculus}
use Rattle.cx_semantics.specs.ProofRules.{proof_calculus}
use Rattle.cx_semantics.specs.Tables.{Tables, first_tables, no_tables}
use Rattle.cx_base.specs.Counts.{Rose}
use Rattle.step_text.specs.declared.source.TextRefusal.{TextRefusal}
use Rattle.step_text.specs.declared.source.TextRefusal.TheVariants as text
use Rattle.step_text.specs.declared.sink.SinkFault.{SinkFault}
use Rattle.step_text.specs.declared.sink.SinkFault.TheVariants as sink
use Rattle.proof_rules.specs.declared.refusal.JudgeRefusal.{JudgeRefusal}
use Rattle.proof_rules.specs.declared.refusal.JudgeRefusal.TheVariants as refusal
use Rattle.fratx_elab.specs.Names.{first_names}
use Rattle.fratx_elab.specs.Elaborates.{Elaborates, IsProofOf}
use Rattle.fratx_elab.specs.Ties.{AreTied}
use Rattle.fratx_elab.specs.Takes.{names_of}
use Rattle.fratx_elab.specs.declared.state.State.{State}
use Rattle.fratx_elab.specs.declared.outcome.Elab.{Elab}
use Rattle.fratx_elab.specs.declared.outcome.Elab.TheVariants.{Done, Refused}
use Rattle.fratx_elab.specs.declared.outcome.ElabFault.{ElabFault}
use Rattle.fratx_elab.specs.declared.outcome.ElabFault.TheVariants.{Memory, Read, Write, TooLong}

abbrev pub judgement_of : Elab → Judgement
judgement_of (Done k) = accepted k
judgement_of (Refused k cause) = refused k cause

-- where the sink told its steps, it tells them now with some more after them, of which this holds
abbrev pub Gained : Option (List ProofStep) → Option (List ProofStep) → (List ProofStep → Type 0) → Type 0
Gained before now P = (first : List ProofStep) → before ≡ Some first → (gained : List ProofStep) × (now ≡ Some (first ++ gained)) × P gained

-- the proof of the steps up to the last, which its own last step ends; or that of the steps before the refused one
abbrev pub IsProofWritten : Problem → List LogStep → Elab → List ProofStep → Type 0
IsProofWritten formula steps (Done k) gained = IsProofOf formula (take k steps) gained × AcceptedAt (proof_calculus formula) gained (length gained)
IsProofWritten formula steps (Refused k cause) gained = IsProofOf formula (take (k - 1) steps) gained × IsOpen (proof_calculus formula) gained

module _ {X : Type 0} (told : X → Option (List ProofStep)) (torn : X → ProofStep → Type 0) where
  -- What is told where the log was not judged to its end: right steps, none of which ends the proof; after a fault of writing a right one that follows is torn.
  abbrev pub IsCutOff : Problem → X → X → ElabFault → Type 0
  IsCutOff formula old new Memory = Gained (told old) (told new) (IsOpen (proof_calculus formula))
  IsCutOff formula old new Read = Gained (told old) (told new) (IsOpen (proof_calculus formula))
  IsCutOff formula old new TooLong = Gained (told old) (told new) (IsOpen (proof_calculus formula))
  IsCutOff formula old new Write =
      (step : ProofStep) × torn new step
      × Gained (told old) (told new) (λ gained. IsFalse (clashes formula.constraints) × (tables : Tables) × Runs (proof_calculus formula) (first_tables formula) gained tables × IsRight (proof_calculus formula) tables step)

module _ {X : Type 0} (leaves : X → List LogStep → Ending → Type 0) (told : X → Option (List ProofStep)) (torn : X → ProofStep → Type 0) where
  -- the source had some steps and an ending left, these are judged so, and the sink gained their proof
  abbrev pub IsElaborated : Problem → X → X → Elab → Type 0
  IsElaborated formula old new elab =
      (steps : List LogStep) × (ending : Ending) × leaves old steps ending × JudgedAs (log_calculus formula) steps ending (judgement_of elab) × Gained (told old) (told new) (IsProofWritten formula steps elab)

  -- What is known before a step: the assumptions do not clash, the steps taken are right and do not end the log, their proof is written, and what is left follows them.
  pub record Kept (formula : Problem) (first now : X) (state : State) (count : ℕ) : Type 0 where
    pub no_clash : IsFalse (clashes formula.constraints)
    pub before : List LogStep
    pub written : List ProofStep
    pub tables : Tables
    pub log_runs : Runs (log_calculus formula) no_tables before state.live
    pub proof_runs : Runs (proof_calculus formula) (first_tables formula) written tables
    pub elaborated : Elaborates formula (first_names formula) no_tables before written (names_of state)
    pub tied : AreTied formula state.live tables (names_of state)
    pub number : count ≡ length before
    pub left : (steps : List LogStep) (ending : Ending) → leaves now steps ending → leaves first (before ++ steps) ending
    pub told_all : (start : List ProofStep) → told first ≡ Some start → told now ≡ Some (start ++ written)

  -- the log goes on after one step more, or is judged
  abbrev pub Goes : Problem → X → X → State → ℕ → Option Elab → Type 0
  Goes formula first now state count None = Kept formula first now state (count + 1)
  Goes formula first now state count (Some elab) = IsElaborated formula first now elab

  abbrev pub Turns : Problem → X → X → State → ℕ → Result (Option Elab) ElabFault → Type 0
  Turns formula first now state count (Ok elab) = Goes formula first now state count elab
  Turns formula first now state count (Err fault) = IsCutOff told torn formula first now fault

-- a fault of reading or of writing is one that was counted, and a text is too long only where the source does not tell
-- that it keeps within its limit
abbrev pub HasCause : Option Bool → ℕ → ℕ → ℕ → ℕ → ElabFault → Type 0
HasCause passes reads_before reads_now writes_before writes_now Memory = ⊤
HasCause passes reads_before reads_now writes_before writes_now Read = Rose reads_before reads_now
HasCause passes reads_before reads_now writes_before writes_now Write = Rose writes_before writes_now
HasCause passes reads_before reads_now writes_before writes_now TooLong = ¬ (passes ≡ Some false)

-- a text is too long only where the source answered that, which it goes on doing
abbrev pub IsTooLongBy : Option TextRefusal → ElabFault → Type 0
IsTooLongBy stuck Memory = ⊤
IsTooLongBy stuck Read = ⊤
IsTooLongBy stuck Write = ⊤
IsTooLongBy stuck TooLong = stuck ≡ Some text.TooLong

-- what is answered where no step comes: a text that does not fit is refused at this number, the rest is a fault
abbrev pub text_refused : TextRefusal → ℕ → Result (Option Elab) ElabFault
text_refused (text.BadToken place) k = Ok (Some (Refused k (causes.TextRefused place)))
text_refused (text.Unterminated place) k = Ok (Some (Refused k (causes.TextRefused place)))
text_refused (text.TooBig place) k = Ok (Some (Refused k (causes.TextRefused place)))
text_refused text.TooLong k = Err TooLong
text_refused text.Memory k = Err Memory
text_refused text.Failed k = Err Read

-- what is answered where a step is not right
abbrev pub step_refused : JudgeRefusal → ℕ → Result (Option Elab) ElabFault
step_refused (refusal.Wrong cause) k = Ok (Some (Refused k cause))
step_refused refusal.Memory k = Err Memory

-- what follows a right step that was written down: it ends the log or does not
abbrev pub what_follows_of : {T : Type 0} → Result T SinkFault → Bool → ℕ → Result (Option Elab) ElabFault
what_follows_of (Ok done) true k = Ok (Some (Done k))
what_follows_of (Ok done) false k = Ok None
what_follows_of (Err sink.Memory) ends k = Err Memory
what_follows_of (Err sink.Failed) ends k = Err Write

-- the source's faults stay except where a fault of reading is answered
abbrev pub ReadsStand : {T : Type 0} → Result T ElabFault → ℕ → ℕ → Type 0
ReadsStand (Ok elab) before now = now ≡ before
ReadsStand (Err Memory) before now = now ≡ before
ReadsStand (Err Write) before now = now ≡ before
ReadsStand (Err TooLong) before now = now ≡ before
ReadsStand (Err Read) before now = ⊤

-- the sink's faults stay except where a fault of writing is answered
abbrev pub WritesStand : {T : Type 0} → Result T ElabFault → ℕ → ℕ → Type 0
WritesStand (Ok elab) before now = now ≡ before
WritesStand (Err Memory) before now = now ≡ before
WritesStand (Err Read) before now = now ≡ before
WritesStand (Err TooLong) before now = now ≡ before
WritesStand (Err Write) before now = ⊤
