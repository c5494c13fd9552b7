-- The second text of a command, judged as it is read from its slot.
use Rattle.std.specs.Prelude.{◌≡◌, ◌<◌, ◌≤◌, ◌+◌, ℕ, false, [], length, None, IfSome, Result, Ok, Err, MatchResult, ⊤}
use Rattle.std.specs.List.{AllByRecursion}
use Rattle.cx_desk.specs.declared.desk.Slot.{Slot}
use Rattle.cx_desk.specs.declared.desk.Slot.TheVariants as slot
use Rattle.cx_desk.specs.declared.draining.DrainErr.{DrainErr}
use Rattle.cx_desk.specs.declared.draining.DrainErr.TheVariants as drained
use Rattle.cx_desk.specs.declared.desk.Port.TheVariants as port
use Rattle.cx_desk.specs.Outside.{Bytes, Outside}
use Rattle.cx_desk.specs.SlotBytes.{BytesState, taken_by}
use Rattle.cx_texts.specs.declared.line_state.LineState.TheVariants.{Start}
use Rattle.cx_judgements.specs.LogTexts.{LogRight, LogRefusedAt}
use Rattle.step_text.specs.Slots.{SlotState, SlotFrame}
use Rattle.fratx_elab.specs.declared.outcome.Elab.{Elab}
use Rattle.fratx_elab.specs.declared.outcome.Elab.TheVariants as elab
use Rattle.fratx_elab.specs.declared.outcome.ElabFault.{ElabFault}
use Rattle.fratx_elab.specs.declared.outcome.ElabFault.TheVariants as cut
use Rattle.cx_base.specs.Problem.{Problem, Unmet}
use Rattle.cx_texts.specs.Printed.{HasProofText}
use Rattle.cx_texts.specs.ProofText.{ProofReads}
use Rattle.cx_judgements.specs.ProofTexts.{RefusedAt}
use Rattle.proof_trim.specs.Laws.{IsRefutation}
use Rattle.proof_trim.specs.Outcomes.{IsTrimOf}
use Rattle.proof_trim.specs.Trimmed.{core_of}
use Rattle.proof_trim.specs.declared.outcome.TrimOf.{TrimOf}
use Rattle.proof_trim.specs.declared.outcome.TrimOf.TheVariants as trimming
use Rattle.cx_words.specs.declared.plans.Plan.{Plan}
use Rattle.cx_words.specs.declared.plans.Plan.TheVariants as plan
use Rattle.xlrup_check.specs.declared.verdict.Verdict.{Verdict}
use Rattle.xlrup_check.specs.declared.verdict.Verdict.TheVariants as verdict
use Rattle.xlrup_check.specs.Verdicts.{ReadsStand}
use Rattle.xlrup_check.specs.declared.verdict.Fault.{Fault}
use Rattle.xlrup_check.specs.declared.verdict.Fault.TheVariants as fault
use Rattle.solve_cli.specs.declared.ending.Ending.{Ending}
use Rattle.solve_cli.specs.declared.ending.Ending.TheVariants as ending
use Rattle.solve_cli.specs.declared.ending.Outcome.{Outcome}
use Rattle.solve_cli.specs.declared.ending.Outcome.TheVariants as outcome
use Rattle.solve_cli.specs.Seen.{Seen, says, ReadFault, WriteFault, text_named}
use Rattle.solve_cli.specs.Proofs.{IsWholeProof, IsProofBefore, IsRightSoFar}
use Rattle.solve_cli.specs.Trimming.{IsTrimmedProof}
use Rattle.solve_cli.specs.Commands.{proof_created}
use Rattle.solve_cli.specs.Happens.{end_stage, IsOf, Judged}
use Rattle.solve_cli.specs.Steps.{ReadFails, LeftBy}

-- a reader of which nothing was asked
abbrev pub first_state : Slot → ℕ → SlotState
first_state s limit = record { bytes = record { slot = s; limit = limit; bytes = []; place = 0; ended = false }; line = Start; refused = None }

-- What a reader and its desk have, if the second slot was ready before: all that the slot gave was counted, which is no more than a
-- byte past the limit.
pub record HasRead (limit : ℕ) (o : Outside) (s : BytesState) (m : Outside) : Type 0 where
  pub slot : s.slot ≡ slot.Second
  pub limited : s.limit ≡ limit
  pub started : m.started ≡ o.started
  pub formula_asked : m.asked.formula ≡ o.asked.formula
  pub second_asked : m.asked.second ≡ o.asked.second
  pub formula : m.given.formula ≡ o.given.formula
  pub count : taken_by s ≡ length m.given.second.bytes
  pub ends : s.ended ≡ m.given.second.ended
  pub few : length m.given.second.bytes ≤ limit + 1

-- an ending of the command that comes after all its calls
abbrev pub IsLateOf : Plan → Ending → Type 0
IsLateOf p e = IsOf p e × (end_stage e ≡ proof_created)

-- the second text is within the limit, and an ending judges it
abbrev pub IsJudgedWithin : Plan → ℕ → Problem → Bytes → Ending → Type 0
IsJudgedWithin p limit f text e = (length text ≤ limit) × Judged e p f text

-- the proof in a started slot was judged, and the slot read to its end
abbrev pub JudgesProof : Problem → Bytes → ℕ → Seen → Result Ending Outcome → Seen → Type 0
JudgesProof f name limit old result new = MatchResult result
    (λ e. ((n : Bytes) → IsLateOf (plan.Check n name) e) × (new ≡ old)
    × IfSome old.files (λ files. (n : Bytes) → IsJudgedWithin (plan.Check n name) limit f (text_named name files) e))
    (λ o. ReadFails slot.Second name limit old o new)

-- what a judgement of a proof ends in
abbrev pub checked_as : Result Verdict Fault → Result Ending Outcome
checked_as (Ok (verdict.Verified k)) = Ok (ending.Verified k)
checked_as (Ok (verdict.Refused k c)) = Ok (ending.NotVerified k c)
checked_as (Err fault.Memory) = Err outcome.Memory
checked_as (Err fault.Read) = Err outcome.ReadFault
checked_as (Err fault.TooLong) = Err (outcome.Ended (ending.TooLong slot.Second))

-- what follows where the rest of the second text was read
abbrev pub drained_as : {T : Type 0} → Result T DrainErr → Result T Outcome
drained_as (Ok v) = Ok v
drained_as (Err drained.Failed) = Err outcome.ReadFault
drained_as (Err drained.TooLong) = Err (outcome.Ended (ending.TooLong slot.Second))

-- what was found, where the rest of the second text was read
abbrev pub drained_with : {T : Type 0} → T → Result (Unit {0}) DrainErr → Result T Outcome
drained_with found (Ok v) = Ok found
drained_with found (Err drained.Failed) = Err outcome.ReadFault
drained_with found (Err drained.TooLong) = Err (outcome.Ended (ending.TooLong slot.Second))

-- ---- a log

-- what the elaborator says of a log, and what it left on the Proof port
abbrev pub ProvedAs : Problem → Bytes → Elab → Bytes → Type 0
ProvedAs f log (elab.Done k) proof = LogRight f log k × IsWholeProof f log k proof
ProvedAs f log (elab.Refused k c) proof = LogRefusedAt f log k c × IsProofBefore f log k proof

-- the log in a slot was judged as it was read, and its proof written on the Proof port, or a prefix of it; the rest of the slot was not read
abbrev pub ElaboratedAs : Problem → Bytes → ℕ → Seen → Result Elab ElabFault → Seen → Type 0
ElaboratedAs f name limit old (Ok e) new = (proof : Bytes) × (new ≡ says port.Proof proof old) × IfSome old.files (λ files. ProvedAs f (text_named name files) e proof × IsRightSoFar f proof)
ElaboratedAs f name limit old (Err cut.Memory) new = (proof : Bytes) × (new ≡ says port.Proof proof old) × IfSome old.files (λ _. IsRightSoFar f proof)
ElaboratedAs f name limit old (Err cut.Read) new = (proof : Bytes) × ReadFault (says port.Proof proof old) new × IfSome old.files (λ _. IsRightSoFar f proof)
ElaboratedAs f name limit old (Err cut.Write) new = (proof : Bytes) × WriteFault (says port.Proof proof old) new × IfSome old.files (λ _. IsRightSoFar f proof)
ElaboratedAs f name limit old (Err cut.TooLong) new =
    (proof : Bytes) × (new ≡ says port.Proof proof old) × IfSome old.files (λ files. (limit < length (text_named name files)) × IsRightSoFar f proof)

-- what an elaboration ends in
abbrev pub elaborated_as : Result Elab ElabFault → Result Ending Outcome
elaborated_as (Ok (elab.Done k)) = Ok (ending.Elaborated k)
elaborated_as (Ok (elab.Refused k c)) = Ok (ending.NotElaborated k c)
elaborated_as (Err cut.Memory) = Err outcome.Memory
elaborated_as (Err cut.Read) = Err outcome.ReadFault
elaborated_as (Err cut.Write) = Err outcome.WriteFault
elaborated_as (Err cut.TooLong) = Err (outcome.Ended (ending.TooLong slot.Second))

-- what an elaboration ends in where the slot was read to its end
abbrev pub Elaborates : Problem → Bytes → ℕ → Seen → Result Ending Outcome → Seen → Type 0
Elaborates f name limit old (Ok e) new = ((n q : Bytes) → IsLateOf (plan.Elab n name q) e)
    × ((proof : Bytes) × (new ≡ says port.Proof proof old)
    × IfSome old.files (λ files. ((n q : Bytes) → IsJudgedWithin (plan.Elab n name q) limit f (text_named name files) e) × LeftBy e f (text_named name files) proof))
Elaborates f name limit old (Err (outcome.Ended (ending.TooLong slot.Second))) new =
    (proof : Bytes) × (new ≡ says port.Proof proof old) × IfSome old.files (λ files. (limit < length (text_named name files)) × IsRightSoFar f proof)
Elaborates f name limit old (Err outcome.Memory) new = (proof : Bytes) × (new ≡ says port.Proof proof old) × IfSome old.files (λ _. IsRightSoFar f proof)
Elaborates f name limit old (Err outcome.ReadFault) new = (proof : Bytes) × ReadFault (says port.Proof proof old) new × IfSome old.files (λ _. IsRightSoFar f proof)
Elaborates f name limit old (Err outcome.WriteFault) new = (proof : Bytes) × WriteFault (says port.Proof proof old) new × IfSome old.files (λ _. IsRightSoFar f proof)
Elaborates f name limit old (Err o) new = ⊥

-- ---- a proof that is trimmed

-- what a trimming that was cut off ends in
abbrev pub uncut_as : Result TrimOf Fault → Result TrimOf Outcome
uncut_as (Ok trimmed) = Ok trimmed
uncut_as (Err fault.Memory) = Err outcome.Memory
uncut_as (Err fault.Read) = Err outcome.ReadFault
uncut_as (Err fault.TooLong) = Err (outcome.Ended (ending.TooLong slot.Second))

-- what a judgement of a slot's text leaves of the slot, and of the faults of reading
pub record LeavesSlot {T : Type 0} (result : Result T Fault) (s : BytesState) (o : Outside) (t : BytesState) (p : Outside) : Type 0 where
  pub reads : ReadsStand result o.faults.reads p.faults.reads
  pub frame : SlotFrame s o t p

-- what stays of an accepted proof has a text and is accepted, and no values meet its core
abbrev pub IsRightTrimming : Problem → TrimOf → Type 0
IsRightTrimming f (trimming.Done t) = AllByRecursion HasProofText t.steps.steps × IsRefutation f t.steps.steps × Unmet (core_of f t.clauses t.parities)
IsRightTrimming f (trimming.Refused k c) = ⊤

-- the trimming of a text
abbrev pub TrimmedAs : Problem → Bytes → TrimOf → Type 0
TrimmedAs f text (trimming.Done t) = IsTrimOf ProofReads f text t
TrimmedAs f text (trimming.Refused k c) = RefusedAt f text k c

-- the proof in a started slot was trimmed, and the slot read to its end
abbrev pub ReadsTrimmed : Problem → Bytes → ℕ → Seen → Result TrimOf Outcome → Seen → Type 0
ReadsTrimmed f name limit old result new = MatchResult result
    (λ t. (new ≡ old) × IfSome old.files (λ files. (length (text_named name files) ≤ limit) × TrimmedAs f (text_named name files) t))
    (λ o. ReadFails slot.Second name limit old o new)

-- what the trimming of a proof left on the Proof port
abbrev pub KeptBy : Ending → Problem → Bytes → Bytes → Type 0
KeptBy (ending.Trimmed core) f proof bytes = IsTrimmedProof f proof core bytes
KeptBy (ending.NotTrimmed k c) f proof bytes = bytes ≡ []
KeptBy e f proof bytes = ⊥

-- The proof in a started slot was judged, and the slot read to its end; then what stays of an accepted one was written, or a prefix of it.
abbrev pub TrimsProof : Problem → Bytes → ℕ → Seen → Result Ending Outcome → Seen → Type 0
TrimsProof f name limit old (Ok e) new = ((n q : Bytes) → IsLateOf (plan.Trim n name q) e)
    × ((bytes : Bytes) × (new ≡ says port.Proof bytes old)
    × IfSome old.files (λ files. ((n q : Bytes) → IsJudgedWithin (plan.Trim n name q) limit f (text_named name files) e) × KeptBy e f (text_named name files) bytes))
TrimsProof f name limit old (Err (outcome.Ended (ending.TooLong slot.Second))) new = (new ≡ old) × IfSome old.files (λ files. limit < length (text_named name files))
TrimsProof f name limit old (Err outcome.Memory) new = new ≡ old
TrimsProof f name limit old (Err outcome.ReadFault) new = ReadFault old new
TrimsProof f name limit old (Err outcome.WriteFault) new = (bytes : Bytes) × WriteFault (says port.Proof bytes old) new × IfSome old.files (λ _. IsRightSoFar f bytes)
TrimsProof f name limit old (Err o) new = ⊥
