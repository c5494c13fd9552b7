-- The steps that a port was given, and what a sink that prints on it does to the outside.
use Rattle.std.specs.Prelude.{◌≡◌, ◌==◌, ◌<◌, ℕ, Bool, true, false, cond, List, [], ◌∷◌, ◌++◌, flat_map, length, take, Option, Some, Result, IfErr}
use Rattle.std.specs.List.{AllByRecursion}
use Rattle.cx_desk.specs.declared.desk.Port.TheVariants.{Proof}
use Rattle.cx_desk.specs.Outside.{Bytes, Outside}
use Rattle.cx_desk.specs.Calls.{gained, WriteFaulted}
use Rattle.cx_base.specs.declared.steps.ProofStep.{ProofStep}
use Rattle.step_text.specs.Sinks.{SinkFaultsAs, HasFailedAs}
use Rattle.step_text.specs.declared.sink.SinkFault.{SinkFault}
use Rattle.step_text.specs.declared.sink.SinkFault.TheVariants as fault
use Rattle.cx_texts.specs.Tokens.{tokens}
use Rattle.cx_texts.specs.Words.{placed_words}
use Rattle.cx_texts.specs.Grammar.{spelling}
use Rattle.cx_texts.specs.ProofText.{proof_steps}
use Rattle.cx_texts.specs.Printed.{printed_line, printed_proof, HasProofText}
use Rattle.cx_texts.proofs.Grammars.{proof_forms}
use Rattle.cx_texts.proofs.Readings.{one_reading}

-- the whole lines of a text, each with its line feed, where a line begins with these bytes; and what comes after them
abbrev pub whole_lines : Bytes → Bytes → List Bytes
whole_lines begun [] = []
whole_lines begun (b ∷ text) = cond (b == 10) ((begun ++ b ∷ []) ∷ whole_lines [] text) (whole_lines (begun ++ b ∷ []) text)

abbrev pub begun_line : Bytes → Bytes → Bytes
begun_line begun [] = begun
begun_line begun (b ∷ text) = cond (b == 10) (begun_line [] text) (begun_line (begun ++ b ∷ []) text)

-- the steps of a text's one reading
abbrev pub steps_read : Bytes → List ProofStep
steps_read text = (one_reading proof_steps proof_forms (length text) (placed_words (tokens text))).0.0

-- the steps of a text's whole lines
abbrev pub told_steps : Bytes → List ProofStep
told_steps text = flat_map steps_read (whole_lines [] text)

abbrev pub steps_told : Outside → Option (List ProofStep)
steps_told o = Some (told_steps o.written.proof)

-- no line is begun on the proof port
abbrev pub is_none : Bytes → Bool
is_none [] = true
is_none (b ∷ bytes) = false

abbrev pub is_whole : Outside → Bool
is_whole o = is_none (begun_line [] o.written.proof)

abbrev pub step_line : ProofStep → Bytes
step_line step = printed_line (spelling proof_steps step)

-- after whole lines comes a proper prefix of the step's line
abbrev pub TornOn : ProofStep → Outside → Type 0
TornOn step o = HasProofText step × ((before : Bytes) × (k : ℕ) × (begun_line [] before ≡ []) × (k < length (step_line step)) × (o.written.proof ≡ before ++ take k (step_line step)))

-- the proof port gained the lines of these steps, and nothing else changed
pub record Prints (old new : Outside) : Type 0 where
  pub steps : List ProofStep
  pub texts : AllByRecursion HasProofText steps
  pub moved : new ≡ gained Proof (printed_proof steps) old

-- and then a proper prefix of one more line, and a fault of writing
pub record Tears (old new : Outside) : Type 0 where
  pub steps : List ProofStep
  pub texts : AllByRecursion HasProofText steps
  pub part : ProofStep
  pub text : HasProofText part
  pub kept : ℕ
  pub front : kept < length (step_line part)
  pub moved : WriteFaulted (gained Proof (printed_proof steps ++ take kept (step_line part)) old) new

-- the faults that a sink counted, by whether it failed
abbrev pub fault_of : Bool → ℕ
fault_of failed = cond failed 1 0

-- from a state of a sink to a later one: whether it failed, and the outside
abbrev pub Goes : Bool → Outside → Bool → Outside → Type 0
Goes true old true new = new ≡ old
Goes true old false new = ⊥
Goes false old false new = Prints old new
Goes false old true new = Tears old new

-- what a sink that prints answers, by whether it failed before and after: its faults, and that it never runs out of memory
pub record PrintsAs {T : Type 0} (result : Result T SinkFault) (before now : Bool) : Type 0 where
  pub faults : SinkFaultsAs result (fault_of before) (fault_of now)
  pub failed : HasFailedAs result before now
  pub no_memory : IfErr result (λ e. e ≡ fault.Failed)

-- what it leaves of the port, which has whole lines as long as the sink did not fail
pub record LeavesPort (failed : Bool) (old : Outside) (failed_now : Bool) (new : Outside) : Type 0 where
  pub goes : Goes failed old failed_now new
  pub whole : failed_now ≡ false → is_whole new ≡ true
