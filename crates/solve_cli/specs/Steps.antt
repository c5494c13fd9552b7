-- The steps of a command: its texts are read, the Proof port is given its file, the answer is written.
use Rattle.std.specs.Prelude.{true, ◌≡◌, ◌<◌, ◌≤◌, ◌+◌, ℕ, [], length, take, Option, Some, None, IfSome, Result, MatchResult}
use Rattle.cx_desk.specs.declared.desk.Slot.{Slot}
use Rattle.cx_desk.specs.declared.desk.Slot.TheVariants as slot
use Rattle.cx_desk.specs.declared.desk.Port.TheVariants as port
use Rattle.cx_desk.specs.declared.calls.ReadErr.{ReadErr}
use Rattle.cx_desk.specs.declared.calls.ReadErr.TheVariants as why
use Rattle.cx_desk.specs.Gave.{nothing}
use Rattle.cx_desk.specs.Outside.{Bytes, Files, Outside, asked_in, given_in, started_in}
use Rattle.cx_desk.specs.Agreeing.{Did}
use Rattle.cx_desk.specs.Calls.{opened, asking, asking_proof, created, ReadFaulted, WriteFaulted}
use Rattle.cx_base.specs.Problem.{Problem}
use Rattle.cx_texts.specs.declared.offence.Offence.TheVariants as offence
use Rattle.cnfx_reader.specs.declared.from_refusal.FromRefusal.{FromRefusal}
use Rattle.cnfx_reader.specs.declared.from_refusal.FromRefusal.TheVariants as refusal
use Rattle.cx_words.specs.declared.plans.Plan.{Plan}
use Rattle.cx_words.specs.declared.plans.Plan.TheVariants as plan
use Rattle.solve_cli.specs.declared.load.Texts.{Texts}
use Rattle.solve_cli.specs.declared.ending.Ending.{Ending}
use Rattle.solve_cli.specs.declared.ending.Ending.TheVariants as ending
use Rattle.solve_cli.specs.declared.ending.Outcome.{Outcome}
use Rattle.solve_cli.specs.declared.ending.Outcome.TheVariants as outcome
use Rattle.solve_cli.specs.Blasting.{IsInClauses}
use Rattle.solve_cli.specs.Endings.{answer_text}
use Rattle.solve_cli.specs.Seen.{Seen, asks, says, ReadFault, WriteFault, text_named}
use Rattle.solve_cli.specs.Commands.{second_started, proof_created, asked_to, second_text}
use Rattle.solve_cli.specs.Proofs.{IsWholeProof, IsProofBefore}
use Rattle.solve_cli.specs.Happens.{is_early, IfNamed, FormulaRead, IsFormula, EarlyDue, Ends, Works}

-- ---- what every call does

-- the reads of each slot gave at most one byte more than the limit
pub record ReadAtMost (limit : ℕ) (o : Outside) : Type 0 where
  pub formula : length o.given.formula.bytes ≤ limit + 1
  pub second : length o.given.second.bytes ≤ limit + 1

-- What a call did, whichever files the desk has, and that it read no slot further than a byte past the limit.
pub record Acts (limit : ℕ) (old new : Outside) (P : Option Files → Type 0) : Type 0 where
  pub did : Did old new P
  pub few : ReadAtMost limit old → ReadAtMost limit new

-- ---- the texts

-- a slot that was started on this file, and of which nothing was read
pub record Ready (slot : Slot) (name : Bytes) (o : Outside) : Type 0 where
  pub started : started_in slot o.started ≡ true
  pub asked : asked_in slot o.asked ≡ Some name
  pub unread : given_in slot o.given ≡ nothing

abbrev pub StartsSlot : {T : Type 0} → Slot → Bytes → Outside → Result T Outcome → Outside → Type 0
StartsSlot slot name old result new = MatchResult result
    (λ _. new ≡ opened slot name old)
    (λ o. (o ≡ outcome.ReadFault) × ReadFaulted (asking slot name old) new)

abbrev pub ReadFails : Slot → Bytes → ℕ → Seen → Outcome → Seen → Type 0
ReadFails slot name limit old (outcome.Ended (ending.TooLong s)) new =
    (s ≡ slot) × (new ≡ old) × IfSome old.files (λ files. limit < length (text_named name files))
ReadFails slot name limit old outcome.ReadFault new = ReadFault old new
ReadFails slot name limit old outcome.Memory new = new ≡ old
ReadFails slot name limit old o new = ⊥

-- what a text that was not read ends in
abbrev pub unread_as : Slot → ReadErr → Outcome
unread_as slot why.Memory = outcome.Memory
unread_as slot why.Failed = outcome.ReadFault
unread_as slot why.TooLong = outcome.Ended (ending.TooLong slot)

-- a started slot was read to its end
abbrev pub ReadsSlot : Slot → Bytes → ℕ → Seen → Result Bytes Outcome → Seen → Type 0
ReadsSlot slot name limit old result new = MatchResult result
    (λ text. (new ≡ old) × (length text ≤ limit) × IfSome old.files (λ files. text ≡ text_named name files))
    (λ o. ReadFails slot name limit old o new)

abbrev pub FormulaFails : Bytes → ℕ → Seen → Outcome → Seen → Type 0
FormulaFails name limit old (outcome.Ended e) new =
    (is_early e ≡ true) × (new ≡ asks slot.Formula name old) × IfSome old.files (λ files. EarlyDue limit (text_named name files) e)
FormulaFails name limit old outcome.ReadFault new = ReadFault (asks slot.Formula name old) new
FormulaFails name limit old outcome.Memory new = new ≡ asks slot.Formula name old
FormulaFails name limit old o new = ⊥

-- the formula was read
abbrev pub ReadsFormula : Bytes → ℕ → Seen → Result Problem Outcome → Seen → Type 0
ReadsFormula name limit old result new = MatchResult result
    (λ f. (new ≡ asks slot.Formula name old) × IfSome old.files (λ files. FormulaRead limit (text_named name files) f))
    (λ o. FormulaFails name limit old o new)

-- the formula was read, and put into clauses
abbrev pub ReadsInClauses : Bytes → Bytes → ℕ → Seen → Result Problem Outcome → Seen → Type 0
ReadsInClauses name out limit old result new = MatchResult result
    (λ made. (f : Problem) × IfSome old.files (λ files. FormulaRead limit (text_named name files) f) × IsInClauses f made × (new ≡ asks slot.Formula name old))
    (λ o. Works (plan.Blast name out) limit old o new)

-- an ending was found, with all that is asked for and written before its answer; or the command was cut off
abbrev pub Finds : Plan → ℕ → Seen → Result Ending Outcome → Seen → Type 0
Finds p limit old result new = MatchResult result (λ e. Ends p limit old e new) (λ o. Works p limit old o new)

-- an answer was written, or a prefix of it
abbrev pub PutsAnswer : Ending → Seen → Outcome → Seen → Type 0
PutsAnswer e old (outcome.Ended d) new = (d ≡ e) × (new ≡ says port.Answer (answer_text e) old)
PutsAnswer e old outcome.WriteFault new =
    (k : ℕ) × (k < length (answer_text e)) × WriteFault (says port.Answer (take k (answer_text e)) old) new
PutsAnswer e old o new = ⊥

-- the formula was read, and the second slot was started
abbrev pub LoadsFormula : Plan → ℕ → Seen → Result Problem Outcome → Seen → Type 0
LoadsFormula p limit old result new = MatchResult result
    (λ f. (new ≡ asked_to second_started p old) × IfSome old.files (λ files. IsFormula p limit files f))
    (λ o. Works p limit old o new)

-- the Proof port was given its file, where there is a name for it
abbrev pub with_file : Option Bytes → Outside → Outside
with_file None o = o
with_file (Some name) o = created name o

abbrev pub GivesFile : {T : Type 0} → Option Bytes → Outside → Result T Outcome → Outside → Type 0
GivesFile proof old result new = MatchResult result
    (λ _. new ≡ with_file proof old)
    (λ o. (o ≡ outcome.WriteFault) × IfNamed proof (λ name. WriteFaulted (asking_proof name old) new))

-- the formula was read, the second slot started, and the Proof port given its file, where there is a name for it
abbrev pub Prepares : Plan → ℕ → Seen → Result Problem Outcome → Seen → Type 0
Prepares p limit old result new = MatchResult result
    (λ f. (new ≡ asked_to proof_created p old) × IfSome old.files (λ files. IsFormula p limit files f))
    (λ o. Works p limit old o new)

-- both texts were read, and each name of the command was asked for
pub record Loaded (p : Plan) (limit : ℕ) (old : Seen) (f : Problem) (text : Bytes) (at : Seen) : Type 0 where
  pub asked : at ≡ asked_to proof_created p old
  pub is_formula : IfSome old.files (λ files. IsFormula p limit files f)
  pub fits : length text ≤ limit
  pub is_second : IfSome old.files (λ files. text ≡ second_text p files)

abbrev pub Loads : Plan → ℕ → Seen → Result Texts Outcome → Seen → Type 0
Loads p limit old result new = MatchResult result
    (λ t. Loaded p limit old t.formula t.second new)
    (λ o. Works p limit old o new)

-- nothing was written on the Proof port
abbrev pub HasNoProof : Outside → Type 0
HasNoProof o = o.written.proof ≡ []

-- what a log's ending leaves on the Proof port
abbrev pub LeftBy : Ending → Problem → Bytes → Bytes → Type 0
LeftBy (ending.Elaborated k) f log proof = IsWholeProof f log k proof
LeftBy (ending.NotElaborated k c) f log proof = IsProofBefore f log k proof
LeftBy e f log proof = ⊥

-- where a formula is not read
abbrev pub refused_as : FromRefusal → Outcome
refused_as (refusal.NoHeader place) = outcome.Ended (ending.FormulaRefused (offence.NoHeader place))
refused_as (refusal.BadHeader place) = outcome.Ended (ending.FormulaRefused (offence.BadHeader place))
refused_as (refusal.BadToken place) = outcome.Ended (ending.FormulaRefused (offence.BadToken place))
refused_as (refusal.Unterminated place) = outcome.Ended (ending.FormulaRefused (offence.Unterminated place))
refused_as (refusal.VarLimit place) = outcome.Ended (ending.FormulaRefused (offence.VarLimit place))
refused_as refusal.Memory = outcome.Memory
refused_as refusal.Failed = outcome.ReadFault
refused_as refusal.TooLong = outcome.Ended (ending.TooLong slot.Formula)
