-- The whole way from a refutation to a verified proof, by the three commands' theorems alone.
use Rattle.std.specs.Prelude.{◌≡◌, ◌<◌, ℕ, ℤ, List, ◌∷◌, ◌++◌, length, Some, IsFalse, ◌⊎◌}
use Rattle.cx_base.specs.Assumptions.{clashes}
use Rattle.cx_base.specs.Endings.{finished}
use Rattle.cx_base.specs.Events.{steps_of}
use Rattle.cx_base.specs.Problem.{Problem}
use Rattle.cx_base.specs.declared.steps.LogEvent.{LogEvent}
use Rattle.cx_base.specs.declared.steps.LogEvent.TheVariants.{Step}
use Rattle.cx_base.specs.declared.steps.LogStep.TheVariants.{ClauseWithHints}
use Rattle.cx_base.specs.declared.steps.ProofStep.{ProofStep}
use Rattle.cx_texts.specs.FormulaText.{Reads}
use Rattle.cx_texts.specs.LogText.{EventsRead}
use Rattle.cx_texts.specs.Printed.{printed_proof}
use Rattle.fratx_elab.specs.Elaborates.{IsWrittenAsGiven}
use Rattle.cx_desk.specs.Outside.{Bytes, Files, Written}
use Rattle.cx_words.specs.Words.{Asks}
use Rattle.cx_words.specs.declared.plans.Plan.TheVariants as plan
use Rattle.cx_words.specs.declared.plans.SearchOptions.{SearchOptions}
use Rattle.solve_cli.specs.declared.ending.Status.{Status}
use Rattle.solve_cli.specs.declared.ending.Status.TheVariants as status
use Rattle.solve_cli.specs.Seen.{Seen, text_named}
use Rattle.solve_cli.specs.Run.{Run}

-- a run in which the desk had these files, after which these bytes were on its ports
pub record ToldRun (words : List Bytes) (limit : ℕ) (files : Files) (s : Status) (written : Written) : Type 0 where
  pub old : Seen
  pub new : Seen
  pub run : Run words limit old s new
  pub told : old.files ≡ Some files
  pub left : new.written ≡ written

-- it ended with a fault, out of memory, or since one of two texts is too long
abbrev pub IsCutShort : ℕ → Bytes → Bytes → Status → Type 0
IsCutShort limit first second s =
    (s ≡ status.ReadFault) ⊎ ((s ≡ status.WriteFault) ⊎ ((s ≡ status.OutOfMemory) ⊎ ((s ≡ status.Limit) × ((limit < length first) ⊎ (limit < length second)))))

-- `elab` of the log that `solve` wrote before its answer that no values meet the formula: 0, or cut short
abbrev pub LogsElaborate : Type 0
LogsElaborate = (words more : List Bytes) (limit bound : ℕ) (files others : Files) (s : Status) (written last : Written) (f log g l q : Bytes) (options : SearchOptions)
    → ToldRun words limit files status.Unsatisfiable written → Asks words (plan.Solve f (Some log) options)
    → ToldRun more bound others s last → Asks more (plan.Elab g l q)
    → text_named g others ≡ text_named f files → text_named l others ≡ written.proof
    → (s ≡ status.Done) ⊎ IsCutShort bound (text_named g others) written.proof s

-- `check` of the proof that `elab` wrote: 0, or cut short
abbrev pub ProofsVerify : Type 0
ProofsVerify = (words more : List Bytes) (limit bound : ℕ) (files others : Files) (s : Status) (written last : Written) (f l q g p : Bytes)
    → ToldRun words limit files status.Done written → Asks words (plan.Elab f l q)
    → ToldRun more bound others s last → Asks more (plan.Check g p)
    → text_named g others ≡ text_named f files → text_named p others ≡ written.proof
    → (s ≡ status.Done) ⊎ IsCutShort bound (text_named g others) written.proof s

-- the bytes are the proof in which each clause by a chain has the hints that the log gives it, up to the end of their chain; where the assumptions clash, there is none
pub record HasLogHints (formula : Problem) (log bytes : Bytes) : Type 0 where
  pub events : List LogEvent
  pub read : EventsRead log events finished
  pub steps : List ProofStep
  pub printed : bytes ≡ printed_proof steps
  pub given : IsFalse (clashes formula.constraints) → (front : List LogEvent) (n : ℕ) (lits hints : List ℤ) (later : List LogEvent) → events ≡ front ++ Step (ClauseWithHints n lits hints) ∷ later
      → IsWrittenAsGiven formula (steps_of front) lits hints steps

-- `elab` of the log that `solve` wrote before its answer that no values meet the formula, where it ends with 0: the proof has the log's hints
abbrev pub LogsKeepHints : Type 0
LogsKeepHints = (words more : List Bytes) (limit bound : ℕ) (files others : Files) (written last : Written) (f log g l q : Bytes) (options : SearchOptions)
    → ToldRun words limit files status.Unsatisfiable written → Asks words (plan.Solve f (Some log) options)
    → ToldRun more bound others status.Done last → Asks more (plan.Elab g l q)
    → text_named g others ≡ text_named f files → text_named l others ≡ written.proof
    → (formula : Problem) × Reads (text_named g others) formula × HasLogHints formula written.proof last.proof
