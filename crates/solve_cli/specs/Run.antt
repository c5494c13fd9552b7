-- The theorem of the program: what a run of it is, from what is seen of the desk before to a status and what is seen then. Each field
-- is a sentence that a user may cite. It holds for all files that agree with the desk as it is left: what the reads of a slot gave is
-- a prefix of the file that it was asked for, and all of it once a read gave the end. So it is said of the bytes that came, whatever
-- desk they came from; and with no files at all (`IfSome old.files`) of the ports, the faults and the names that were asked for.
use Rattle.std.specs.Prelude.{◌≡◌, ℕ, Bool, true, false, List, IfSome, IsTrue, ◌⊎◌}
use Rattle.cx_base.specs.Counts.{Rose}
use Rattle.cx_desk.specs.declared.desk.Slot.TheVariants as slot
use Rattle.cx_desk.specs.Outside.{Bytes, Files}
use Rattle.cx_words.specs.Words.{Asks, Refuses}
use Rattle.cx_words.specs.declared.plans.Plan.{Plan}
use Rattle.cx_words.specs.declared.plans.Plan.TheVariants as plan
use Rattle.solve_cli.specs.declared.ending.Ending.{Ending}
use Rattle.solve_cli.specs.declared.ending.Ending.TheVariants as ending
use Rattle.solve_cli.specs.declared.ending.Status.{Status}
use Rattle.solve_cli.specs.declared.ending.Status.TheVariants as status
use Rattle.solve_cli.specs.Endings.{status_of_ending}
use Rattle.solve_cli.specs.Seen.{Seen}
use Rattle.solve_cli.specs.Happens.{Due, Early, Runs, Comes}
use Rattle.solve_cli.specs.Causes.{IsFormulaRefused, IsOverLimit, IsProofRefused, IsLogRefused, IsAnswerRefused, IsOfSolve, IsVerified, IsElaborated, IsModelRight}
use Rattle.solve_cli.specs.Demo.{IsDemonstrated}
use Rattle.solve_cli.specs.Derived.{IsTrimmed, IsBlasted, IsAffine}
use Rattle.solve_cli.specs.Solved.{IsSatisfied, IsRefuted, IsSpent, IsSettled, IsSettledWithRecovered, IsUnsolvable}

-- `check` and `model` judge a second text, and write on no port but the Answer port
abbrev pub is_reader : Plan → Bool
is_reader (plan.Check name proof) = true
is_reader (plan.Model name answer) = true
is_reader (plan.Solve name log options) = false
is_reader (plan.Elab name log proof) = false
is_reader (plan.Demo kind size seed) = false
is_reader (plan.Trim name proof out) = false
is_reader (plan.Blast name out) = false
is_reader (plan.Affine name) = false

-- The endings that are told by a message alone, so that they come though every write fails: the formula's, a second text of
-- `check` and `model` that is too long, and too many variables of a formula in clauses.
abbrev pub IsToldByMessage : Plan → ℕ → Files → Ending → Type 0
IsToldByMessage p limit files e = Early p limit files e
    ⊎ ((IsTrue (is_reader p) × (e ≡ ending.TooLong slot.Second) × Due p limit files e) ⊎ ((k : ℕ) × (e ≡ ending.TooManyVariables k) × Due p limit files e))

pub record Run (words : List Bytes) (limit : ℕ) (old : Seen) (s : Status) (new : Seen) : Type 0 where
  -- everything that happened: the names that were asked for, what each port gained, the faults, the message
  pub happens : Runs words limit old s new
  -- 10: the printed values meet every clause, parity and assumption, and come after a log that is right and open
  pub values_meet : s ≡ status.Satisfiable → IsSatisfied words old new
  -- 20: no values meet every clause, parity and assumption, and a log that is right to its end comes before the answer; the assumed literals that are told fail
  pub no_values_meet : s ≡ status.Unsatisfiable → IsRefuted words old new
  pub only_solve_decides : (s ≡ status.Satisfiable) ⊎ (s ≡ status.Unsatisfiable) → IsOfSolve words
  -- 0 of `solve`: the budget of counted conflicts is spent, each with a fresh learned clause in the log
  pub budget_is_spent : IsOfSolve words → s ≡ status.Done → IsSpent words old new
  -- 0 of `check`: the proof is accepted, and no values meet the formula
  pub proof_is_verified : s ≡ status.Done → IsVerified words limit old
  -- 0 of `elab`: the log is right, and its proof, which `check` accepts, was written
  pub log_is_elaborated : s ≡ status.Done → IsElaborated words limit old new
  -- 0 of `model`: the printed values meet the formula
  pub model_is_right : s ≡ status.Done → IsModelRight words limit old
  -- 0 of `demo`: what was printed of the planted instance is so, and comes after the log of its search
  pub instance_is_shown : s ≡ status.Done → IsDemonstrated words old new
  -- 0 of `trim`: the proof is accepted, what its last step needs was written, which is accepted too, and no values meet the core that was told
  pub proof_is_trimmed : s ≡ status.Done → IsTrimmed words limit old new
  -- 0 of `blast`: the formula in clauses was written, and each list of values that meets the given one begins exactly one that meets it
  pub formula_is_blasted : s ≡ status.Done → IsBlasted words limit old new
  -- 0 of `affine`: the solutions of the parities were told
  pub space_is_told : s ≡ status.Done → IsAffine words limit old new
  -- 2: the words are refused
  pub words_are_refused : s ≡ status.Usage → Refuses words
  -- 3: the formula's text has a first offence
  pub formula_is_refused : s ≡ status.FormulaRefused → IsFormulaRefused words limit old
  -- 4 and 5: a fault of reading, or of writing, was counted in this call
  pub read_failed : s ≡ status.ReadFault → Rose old.faults.reads new.faults.reads
  pub write_failed : s ≡ status.WriteFault → Rose old.faults.writes new.faults.writes
  -- 7, 8, 11: of `check` and `trim`, `elab`, and `model` alone, each for its first cause
  pub proof_is_refused : s ≡ status.ProofRefused → IsProofRefused words limit old new
  pub log_is_refused : s ≡ status.LogRefused → IsLogRefused words limit old new
  pub answer_is_refused : s ≡ status.AnswerRefused → IsAnswerRefused words limit old
  -- 9: a variable or a text is over its limit, or a formula in clauses would have too many variables
  pub limit_is_passed : s ≡ status.Limit → IsOverLimit words limit old
  -- what is due comes, where neither reads nor writes failed and memory was there
  pub complete : (p : Plan) → Asks words p → ¬ Rose old.faults.reads new.faults.reads → ¬ Rose old.faults.writes new.faults.writes
      → (s ≡ status.OutOfMemory) ⊎ Comes words limit old s
  -- words that are refused get 2, whatever fails
  pub refused_words_end : Refuses words → (s ≡ status.OutOfMemory) ⊎ (s ≡ status.Usage)
  -- a message's ending comes though writes fail
  pub messages_need_no_write : (p : Plan) (e : Ending) → Asks words p → ¬ Rose old.faults.reads new.faults.reads
      → IfSome old.files (λ files. IsToldByMessage p limit files e → (s ≡ status.OutOfMemory) ⊎ (s ≡ status_of_ending e))
  -- a formula that propagation settles is not left unknown; with parities that have no solution no values are printed either
  pub settled : IsSettled words old s
  pub unsolvable : IsUnsolvable words old s
  -- nor is one that it settles with the parities that the formula has as clauses
  pub settled_with_recovered : IsSettledWithRecovered words old s
