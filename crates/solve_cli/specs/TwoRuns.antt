-- Two runs, of one command or of two.
use Rattle.std.specs.Prelude.{◌≡◌, ◌≢◌, ℕ, List, Some, ⊤}
use Rattle.cx_desk.specs.Outside.{Bytes, Files, Written}
use Rattle.cx_words.specs.Words.{Asks}
use Rattle.cx_words.specs.declared.plans.Plan.{Plan}
use Rattle.cx_words.specs.declared.plans.Plan.TheVariants as plan
use Rattle.solve_cli.specs.declared.ending.Status.{Status}
use Rattle.solve_cli.specs.declared.ending.Status.TheVariants as status
use Rattle.solve_cli.specs.Commands.{formula_of}
use Rattle.solve_cli.specs.Seen.{Seen, text_named}
use Rattle.solve_cli.specs.Run.{Run}
use Rattle.solve_cli.specs.WholeWay.{ToldRun}

-- ---- what is said of one formula

-- the command says that values meet the formula: `solve` by 10, `model` by 0
abbrev pub FindsValues : Plan → Status → Type 0
FindsValues (plan.Solve formula log options) s = s ≡ status.Satisfiable
FindsValues (plan.Model formula answer) s = s ≡ status.Done
FindsValues p s = ⊥

-- it says that none do: `solve` by 20, `check`, `elab` and `trim` by 0
abbrev pub FindsNone : Plan → Status → Type 0
FindsNone (plan.Solve formula log options) s = s ≡ status.Unsatisfiable
FindsNone (plan.Check formula proof) s = s ≡ status.Done
FindsNone (plan.Elab formula log proof) s = s ≡ status.Done
FindsNone (plan.Trim formula proof out) s = s ≡ status.Done
FindsNone p s = ⊥

-- the two commands read one formula text, maybe from files of different names
pub record HaveOneFormula (p q : Plan) (files others : Files) : Type 0 where
  pub name : Bytes
  pub other : Bytes
  pub of_first : formula_of p ≡ Some name
  pub of_second : formula_of q ≡ Some other
  pub one_text : text_named name files ≡ text_named other others

-- over one formula text no run says that values meet it where another says that none do
abbrev pub RunsAgree : Type 0
RunsAgree = (words more : List Bytes) (limit bound : ℕ) (files others : Files) (s t : Status) (written last : Written) (p q : Plan)
    → ToldRun words limit files s written → Asks words p → ToldRun more bound others t last → Asks more q
    → HaveOneFormula p q files others → FindsValues p s → FindsNone q t → ⊥

-- ---- what the files decide

-- the commands that compute: of `solve` several answers may be right, and several proofs of `elab`
abbrev pub IsComputed : Plan → Type 0
IsComputed (plan.Check formula proof) = ⊤
IsComputed (plan.Model formula answer) = ⊤
IsComputed (plan.Trim formula proof out) = ⊤
IsComputed (plan.Blast formula out) = ⊤
IsComputed p = ⊥

-- a run over these files, with this on the ports before it and that after it
pub record WrittenRun (words : List Bytes) (limit : ℕ) (files : Files) (before : Written) (s : Status) (after : Written) : Type 0 where
  pub old : Seen
  pub new : Seen
  pub run : Run words limit old s new
  pub told : old.files ≡ Some files
  pub begun : old.written ≡ before
  pub left : new.written ≡ after

-- no fault cut it off, and memory did not run out
pub record IsWhole (s : Status) : Type 0 where
  pub was_read : s ≢ status.ReadFault
  pub was_written : s ≢ status.WriteFault
  pub had_memory : s ≢ status.OutOfMemory

-- both ports for what a command makes have the same bytes
pub record HaveSameOutput (a b : Written) : Type 0 where
  pub answer : a.answer ≡ b.answer
  pub proof : a.proof ≡ b.proof

-- two whole runs of such a command over the same files end alike, with the same bytes
abbrev pub FilesDecide : Type 0
FilesDecide = (words : List Bytes) (limit : ℕ) (files : Files) (before after last : Written) (s t : Status) (p : Plan) → Asks words p → IsComputed p
    → WrittenRun words limit files before s after → WrittenRun words limit files before t last → IsWhole s → IsWhole t
    → (s ≡ t) × HaveSameOutput after last
