-- What the checker answers.
use Rattle.std.specs.Prelude.{◌≡◌, ◌<◌, ◌^◌, ℕ, ℤ, Bool, true, false, ◌&&◌, [], ◌∷◌, List, length, ◌++◌, ◌+◌, Option, Some, None, Result, Ok, Err, IfErr, IsFalse, ⊤}
use Rattle.cx_base.specs.Problem.{Problem, Unmet}
use Rattle.cx_base.specs.Assumptions.{is_ending, clashes}
use Rattle.cx_base.specs.declared.steps.ProofStep.{ProofStep}
use Rattle.cx_base.specs.Literals.{Literal}
use Rattle.cx_base.specs.Endings.{Ending}
use Rattle.cx_base.specs.Integers.{literals}
use Rattle.cx_base.specs.declared.steps.ProofStep.TheVariants as proof
use Rattle.cx_semantics.specs.Tables.{Tables, first_tables}
use Rattle.cx_semantics.specs.declared.cause.Cause.TheVariants as causes
use Rattle.step_text.specs.declared.source.TextRefusal.{TextRefusal}
use Rattle.step_text.specs.declared.source.TextRefusal.TheVariants as text
use Rattle.cx_semantics.specs.Judging.{Rule, AllHold, Judgement, accepted, refused, Runs, AcceptedAt, JudgedAs}
use Rattle.cx_semantics.specs.ProofRules.{adding, hinting, chaining, summing, clause_of_parity, parity_of_clauses, proof_calculus, proof_rules, after_step, adds_ending_clause}
use Rattle.cx_base.specs.Counts.{Rose}
use Rattle.proof_rules.specs.declared.refusal.JudgeRefusal.{JudgeRefusal}
use Rattle.proof_rules.specs.declared.refusal.JudgeRefusal.TheVariants as refusal
use Rattle.proof_rules.specs.Judges.{IsRefusedBy}
use Rattle.proof_rules.specs.Kinds.{chosen, put_constraint, is_clauses, hinted}
use Rattle.proof_rules.specs.declared.live.Kind.{Kind}
use Rattle.xlrup_check.specs.declared.verdict.Verdict.{Verdict}
use Rattle.xlrup_check.specs.declared.verdict.Verdict.TheVariants.{Verified, Refused}
use Rattle.xlrup_check.specs.declared.verdict.Fault.{Fault}
use Rattle.xlrup_check.specs.declared.verdict.Fault.TheVariants.{Memory, Read, TooLong}

abbrev pub judgement_of : Verdict → Judgement
judgement_of (Verified k) = accepted k
judgement_of (Refused k cause) = refused k cause

-- the source had some steps and an ending left, and these are judged so
abbrev pub IsJudgedBy : {X : Type 0} → (X → List ProofStep → Ending → Type 0) → Problem → X → Verdict → Type 0
IsJudgedBy leaves formula source verdict =
    (steps : List ProofStep) × (ending : Ending) × leaves source steps ending × JudgedAs (proof_calculus formula) steps ending (judgement_of verdict)

-- verified only where no values meet the formula, whatever the source tells
abbrev pub IsSound : Problem → Verdict → Type 0
IsSound formula (Verified k) = Unmet formula
IsSound formula (Refused k cause) = ⊤

-- a fault of reading is one that was counted, and a text is too long only where the source does not tell that it keeps
-- within its limit
abbrev pub HasCause : Option Bool → ℕ → ℕ → Fault → Type 0
HasCause passes before now Memory = ⊤
HasCause passes before now Read = Rose before now
HasCause passes before now TooLong = ¬ (passes ≡ Some false)

-- a text is too long only where the source answered that, which it goes on doing
abbrev pub IsTooLongBy : Option TextRefusal → Fault → Type 0
IsTooLongBy stuck Memory = ⊤
IsTooLongBy stuck Read = ⊤
IsTooLongBy stuck TooLong = stuck ≡ Some text.TooLong

-- the source's faults stay except where a fault of reading is answered
abbrev pub ReadsStand : {T : Type 0} → Result T Fault → ℕ → ℕ → Type 0
ReadsStand (Ok verdict) before now = now ≡ before
ReadsStand (Err Memory) before now = now ≡ before
ReadsStand (Err TooLong) before now = now ≡ before
ReadsStand (Err Read) before now = ⊤

-- A source is told of by the texts that it may be reading, whether a text passes its limit, the refusal that it goes on giving, its faults, and what a
-- call keeps.
module _ {X : Type 0} (may_read : X → List ℕ → Type 0) (passes_limit : X → List ℕ → Option Bool) (stuck : X → Option TextRefusal) (faults : X → ℕ) (keeps : X → X → Type 0) where
  -- what holds of it whatever is answered
  pub record LeavesSource {T : Type 0} (old : X) (result : Result T Fault) (new : X) : Type 0 where
    -- its text may have been each one that it may be now
    pub narrows : (text : List ℕ) → may_read new text → may_read old text
    pub cause : (text : List ℕ) → may_read new text → IfErr result (HasCause (passes_limit old text) (faults old) (faults new))
    pub long : IfErr result (IsTooLongBy (stuck new))
    pub reads : ReadsStand result (faults old) (faults new)
    pub frame : keeps old new

-- its next step can be taken
pub record CanGoOn {X : Type 0} (is_spent : X → Bool) (place : X → ℕ) (old new : X) : Type 0 where
  pub fresh : is_spent new ≡ false
  pub rises : place old < place new

-- each text passes its limit or does not, as before, and no place is too far
pub record KeepsLimits {X : Type 0} (may_read : X → List ℕ → Type 0) (passes_limit : X → List ℕ → Option Bool) (place : X → ℕ) (old new : X) : Type 0 where
  pub far : place new < 2 ^ 62
  pub limit : (text : List ℕ) → may_read new text → passes_limit new text ≡ passes_limit old text

-- what is answered where no step comes: a text that does not fit is refused at this number, the rest is a fault
abbrev pub text_refused : TextRefusal → ℕ → Result (Option Verdict) Fault
text_refused (text.BadToken place) k = Ok (Some (Refused k (causes.TextRefused place)))
text_refused (text.Unterminated place) k = Ok (Some (Refused k (causes.TextRefused place)))
text_refused (text.TooBig place) k = Ok (Some (Refused k (causes.TextRefused place)))
text_refused text.TooLong k = Err TooLong
text_refused text.Memory k = Err Memory
text_refused text.Failed k = Err Read

-- what follows a step that was judged: a right one ends the proof or does not, a wrong one is refused
abbrev pub what_follows_of : Result Bool JudgeRefusal → ℕ → Result (Option Verdict) Fault
what_follows_of (Ok true) k = Ok (Some (Verified k))
what_follows_of (Ok false) k = Ok None
what_follows_of (Err (refusal.Wrong cause)) k = Ok (Some (Refused k cause))
what_follows_of (Err refusal.Memory) k = Err Memory

-- a recorder was told this step after those before
abbrev pub Tells : {R : Type 0} → (R → List ProofStep → Type 0) → ProofStep → R → R → Type 0
Tells told step old new = (before : List ProofStep) → told old before → told new (before ++ step ∷ [])

-- These steps are accepted at their last one, or at once where there is none, and of each text that the source may have read they were left, and maybe
-- others after them.
pub record IsRefutationIn {X : Type 0} (may_read : List ℕ → Type 0) (leaves : X → List ℕ → List ProofStep → Ending → Type 0) (formula : Problem) (source : X) (steps : List ProofStep) : Type 0 where
  pub accepted : AcceptedAt (proof_calculus formula) steps (length steps)
  pub short : length steps < 2 ^ 62
  pub left : (text : List ℕ) → may_read text → (later : List ProofStep) × (ending : Ending) × leaves source text (steps ++ later) ending

-- the steps that were told of a proof that is verified are a refutation, up to the step that ends it
abbrev pub RecordsAll : {X : Type 0} → (List ℕ → Type 0) → (X → List ℕ → List ProofStep → Ending → Type 0) → (List ProofStep → Type 0) → Problem → X → Verdict → Type 0
RecordsAll may_read leaves told formula source (Verified k) = (steps : List ProofStep) × told steps × IsRefutationIn may_read leaves formula source steps
RecordsAll may_read leaves told formula source (Refused k cause) = ⊤

-- A proof is judged from a first state of its source and of its recorder on.
module _ {X R : Type 0} (may_read : X → List ℕ → Type 0) (leaves : X → List ℕ → List ProofStep → Ending → Type 0) (told : R → List ProofStep → Type 0) (formula : Problem)
    (first : X) (start : R) where
  -- What is known before a step: the assumptions do not clash, these steps were taken and told, are right and did not end the proof, and what is left of
  -- each text that the source may have read follows them.
  pub record Kept (now : X) (recorder : R) (tables : Tables) (count : ℕ) : Type 0 where
    pub before : List ProofStep
    pub no_clash : IsFalse (clashes formula.constraints)
    pub runs : Runs (proof_calculus formula) (first_tables formula) before tables
    pub number : count ≡ length before
    pub were_told : told start [] → told recorder before
    pub narrows : (text : List ℕ) → may_read now text → may_read first text
    pub left : (text : List ℕ) → may_read now text → (steps : List ProofStep) (ending : Ending) → leaves now text steps ending → leaves first text (before ++ steps) ending

  -- this is the verdict on each text that the source may have read, and the steps of a verified proof were told
  pub record IsJudged (now : X) (recorder : R) (verdict : Verdict) : Type 0 where
    pub judged : (text : List ℕ) → may_read now text → IsJudgedBy (λ a. leaves a text) formula first verdict
    pub sound : IsSound formula verdict
    pub recorded : told start [] → RecordsAll (may_read now) leaves (told recorder) formula first verdict

  -- the proof goes on after one step more, or is judged
  abbrev pub Goes : X → R → Tables → ℕ → Option Verdict → Type 0
  Goes now recorder tables steps None = Kept now recorder tables (steps + 1)
  Goes now recorder tables steps (Some verdict) = IsJudged now recorder verdict

-- all rules hold, these are the tables after and it is said whether the proof ends; or the first rule that fails is the cause
abbrev pub Takes : List Rule → Tables → Bool → Result Bool JudgeRefusal → Tables → Type 0
Takes rules after ends (Ok said) new = AllHold rules × ((new ≡ after) × (said ≡ ends))
Takes rules after ends (Err why) new = IsRefusedBy rules why

-- a step was taken, or has this first cause against it
abbrev pub TakesStep : Problem → Tables → ProofStep → Result Bool JudgeRefusal → Tables → Type 0
TakesStep formula old step result new = Takes (proof_rules formula old step) (after_step old step) (adds_ending_clause formula step) result new

-- the hints of what a step adds, and what they show
abbrev pub hint_rules : Tables → ProofStep → List Literal → List Rule
hint_rules tables (proof.Clause n lits hints) target = hinting tables.clauses hints ++ chaining target (hinted tables.clauses hints)
hint_rules tables (proof.Parity n lits hints) target = hinting tables.parities hints ++ summing target (hinted tables.parities hints)
hint_rules tables (proof.ClauseOfParity n lits hint) target = hinting tables.parities (hint ∷ []) ++ clause_of_parity target (hinted tables.parities (hint ∷ []))
hint_rules tables (proof.ParityOfClauses n lits hints) target = hinting tables.clauses hints ++ parity_of_clauses target (hinted tables.clauses hints)
hint_rules tables (proof.DeleteClauses n ids) target = []
hint_rules tables (proof.DeleteParities ids) target = []

-- the literals that a step adds are in the table, or have this first cause against them
abbrev pub TakesAdded : Problem → Tables → Kind → ℕ → List ℤ → ProofStep → Result Bool JudgeRefusal → Tables → Type 0
TakesAdded formula old kind n lits step result new =
    Takes (adding formula (chosen kind old) n lits ++ hint_rules old step (literals lits)) (put_constraint kind old n (literals lits)) (is_clauses kind && is_ending formula.constraints (literals lits)) result new
