-- The status and the lines of each ending.
use Rattle.std.specs.Prelude.{ℕ, List, [], ◌∷◌, ◌++◌, codes, decimal, Option, Some, None}
use Rattle.cx_desk.specs.declared.desk.Slot.{Slot}
use Rattle.cx_desk.specs.declared.desk.Slot.TheVariants as slot
use Rattle.cx_texts.specs.declared.offence.Offence.{Offence}
use Rattle.cx_texts.specs.declared.offence.Offence.TheVariants as offence
use Rattle.cx_semantics.specs.declared.cause.Cause.{Cause}
use Rattle.cx_semantics.specs.declared.cause.Cause.TheVariants as cause
use Rattle.cx_texts.specs.AnswerText as printed
use Rattle.cx_words.specs.PlainWords.{kind_word}
use Rattle.gf2_space.specs.AffineText.{affine_text}
use Rattle.gf2_space.specs.Spaces.{AffineSpace}
use Rattle.solve_cli.specs.Failed.{unsatisfiable_text}
use Rattle.solve_cli.specs.Trimming.{core_text}
use Rattle.solve_cli.specs.declared.ending.Ending.{Ending}
use Rattle.solve_cli.specs.declared.ending.Ending.TheVariants as ending
use Rattle.solve_cli.specs.declared.ending.Instance.{Instance}
use Rattle.solve_cli.specs.declared.ending.Shown.{Shown}
use Rattle.solve_cli.specs.declared.ending.Shown.TheVariants as shown
use Rattle.solve_cli.specs.declared.ending.WrongAnswer.{WrongAnswer}
use Rattle.solve_cli.specs.declared.ending.WrongAnswer.TheVariants as wrong
use Rattle.solve_cli.specs.declared.ending.Outcome.{Outcome}
use Rattle.solve_cli.specs.declared.ending.Outcome.TheVariants as outcome
use Rattle.solve_cli.specs.declared.ending.Status.{Status}
use Rattle.solve_cli.specs.declared.ending.Status.TheVariants as status

abbrev pub status_code_of : Status → ℕ
status_code_of status.Done = 0
status_code_of status.Usage = 2
status_code_of status.FormulaRefused = 3
status_code_of status.ReadFault = 4
status_code_of status.WriteFault = 5
status_code_of status.OutOfMemory = 6
status_code_of status.ProofRefused = 7
status_code_of status.LogRefused = 8
status_code_of status.Limit = 9
status_code_of status.AnswerRefused = 11
status_code_of status.Satisfiable = 10
status_code_of status.Unsatisfiable = 20

-- a variable above the limit is the limit's, and every other offence the formula's
abbrev pub status_of_offence : Offence → Status
status_of_offence (offence.NoHeader b) = status.FormulaRefused
status_of_offence (offence.BadHeader b) = status.FormulaRefused
status_of_offence (offence.BadToken b) = status.FormulaRefused
status_of_offence (offence.Unterminated b) = status.FormulaRefused
status_of_offence (offence.VarLimit b) = status.Limit

abbrev pub status_of_ending : Ending → Status
status_of_ending (ending.FormulaRefused o) = status_of_offence o
status_of_ending (ending.TooLong s) = status.Limit
status_of_ending (ending.Verified k) = status.Done
status_of_ending (ending.NotVerified k c) = status.ProofRefused
status_of_ending ending.ModelRight = status.Done
status_of_ending (ending.ModelWrong w) = status.AnswerRefused
status_of_ending (ending.Elaborated k) = status.Done
status_of_ending (ending.NotElaborated k c) = status.LogRefused
status_of_ending (ending.Satisfiable v) = status.Satisfiable
status_of_ending (ending.Unsatisfiable failed) = status.Unsatisfiable
status_of_ending (ending.Unknown k) = status.Done
status_of_ending (ending.Demonstrated i x) = status.Done
status_of_ending (ending.Trimmed core) = status.Done
status_of_ending (ending.NotTrimmed k c) = status.ProofRefused
status_of_ending (ending.Blasted variables clauses) = status.Done
status_of_ending (ending.TooManyVariables k) = status.Limit
status_of_ending (ending.Affine space) = status.Done

abbrev pub status_of : Outcome → Status
status_of (outcome.Ended e) = status_of_ending e
status_of outcome.Usage = status.Usage
status_of outcome.ReadFault = status.ReadFault
status_of outcome.WriteFault = status.WriteFault
status_of outcome.Memory = status.OutOfMemory

-- pieces one after the other
abbrev pub joined : List (List ℕ) → List ℕ
joined [] = []
joined (p ∷ ps) = p ++ joined ps

-- the place that follows the code of a text's refusal
abbrev pub place_text : Cause → List ℕ
place_text (cause.TextRefused b) = decimal b
place_text c = []

-- the code of a cause of a proof's refusal; the last three are no causes of a proof
abbrev pub cause_code : Cause → List ℕ
cause_code (cause.TextRefused b) = codes "P0 at byte "
cause_code cause.VarUnknown = codes "P1"
cause_code cause.IdInUse = codes "P2"
cause_code cause.RatHint = codes "P3"
cause_code cause.HintNotLive = codes "P4"
cause_code cause.HintNotUnit = codes "P5"
cause_code cause.HintsEnd = codes "P6"
cause_code cause.SumDiffers = codes "P7"
cause_code cause.NotImplied = codes "P8"
cause_code cause.TooWide = codes "P9"
cause_code cause.ClauseOutside = codes "P10"
cause_code cause.NoEmptyClause = codes "P11"
cause_code cause.NotInFormula = codes "P"
cause_code cause.NotLive = codes "P"
cause_code cause.NoChain = codes "P"

abbrev pub cause_text : Cause → List ℕ
cause_text c = cause_code c ++ place_text c

-- the code of a cause of a log's refusal; the last four are no causes of a log
abbrev pub log_cause_code : Cause → List ℕ
log_cause_code (cause.TextRefused b) = codes "E0 at byte "
log_cause_code cause.VarUnknown = codes "E1"
log_cause_code cause.IdInUse = codes "E2"
log_cause_code cause.NotInFormula = codes "E3"
log_cause_code cause.NotLive = codes "E4"
log_cause_code cause.NoChain = codes "E5"
log_cause_code cause.SumDiffers = codes "E7"
log_cause_code cause.NotImplied = codes "E8"
log_cause_code cause.TooWide = codes "E9"
log_cause_code cause.ClauseOutside = codes "E10"
log_cause_code cause.NoEmptyClause = codes "E11"
log_cause_code cause.RatHint = codes "E"
log_cause_code cause.HintNotLive = codes "E"
log_cause_code cause.HintNotUnit = codes "E"
log_cause_code cause.HintsEnd = codes "E"

abbrev pub log_cause_text : Cause → List ℕ
log_cause_text c = log_cause_code c ++ place_text c

-- the lines of printed values that are refused
abbrev pub wrong_text : WrongAnswer → List ℕ
wrong_text wrong.NoStatusLine = codes "c A1\ns MODEL WRONG\n"
wrong_text (wrong.BadToken b) = joined (codes "c A2 at byte " ∷ decimal b ∷ codes "\ns MODEL WRONG\n" ∷ [])
wrong_text (wrong.Missing v) = joined (codes "c A3 variable " ∷ decimal v ∷ codes "\ns MODEL WRONG\n" ∷ [])
wrong_text (wrong.Twice v) = joined (codes "c A4 variable " ∷ decimal v ∷ codes "\ns MODEL WRONG\n" ∷ [])
wrong_text (wrong.Unmet n) = joined (codes "c A5 constraint " ∷ decimal n ∷ codes "\ns MODEL WRONG\n" ∷ [])

-- the last lines of a demonstration
abbrev pub shown_text : Shown → List ℕ
shown_text shown.Meet = codes "s SATISFIABLE\nc values MEET\n"
shown_text shown.Verified = codes "s UNSATISFIABLE\nc proof VERIFIED\n"
shown_text shown.Unknown = codes "c conflicts 1000000000000000000\ns UNKNOWN\n"

-- the lines of a demonstration
abbrev pub demo_text : Instance → Shown → List ℕ
demo_text i x = joined (codes "c demo " ∷ kind_word i.kind ∷ codes " " ∷ decimal i.size ∷ codes " " ∷ decimal i.seed
    ∷ codes "\nc variables " ∷ decimal i.variables ∷ codes "\nc clauses " ∷ decimal i.clauses ∷ codes "\nc parities " ∷ decimal i.parities ∷ codes "\n" ∷ shown_text x ∷ [])

-- the lines of a formula in clauses
abbrev pub blasted_text : ℕ → ℕ → List ℕ
blasted_text variables clauses = joined (codes "c variables " ∷ decimal variables ∷ codes "\nc clauses " ∷ decimal clauses ∷ codes "\ns BLASTED\n" ∷ [])

-- the lines of the parities' solutions
abbrev pub space_text : Option AffineSpace → List ℕ
space_text None = codes "s AFFINE NONE\n"
space_text (Some space) = affine_text space

-- what an ending that tells nothing but itself puts on the Answer port
abbrev pub plain_answer : Ending → List ℕ
plain_answer (ending.Verified k) = codes "s VERIFIED\n"
plain_answer ending.ModelRight = codes "s MODEL RIGHT\n"
plain_answer (ending.Elaborated k) = codes "s ELABORATED\n"
plain_answer e = []

-- what an ending puts on the Answer port; nothing where a limit is passed or the formula was refused
unfoldable pub answer_text : Ending → List ℕ
answer_text (ending.NotVerified k c) = joined (codes "c step " ∷ decimal k ∷ codes " " ∷ cause_text c ∷ codes "\ns NOT VERIFIED\n" ∷ [])
answer_text (ending.ModelWrong w) = wrong_text w
answer_text (ending.NotElaborated k c) = joined (codes "c step " ∷ decimal k ∷ codes " " ∷ log_cause_text c ∷ codes "\ns NOT ELABORATED\n" ∷ [])
answer_text (ending.Satisfiable v) = printed.answer_text v
answer_text (ending.Unsatisfiable failed) = unsatisfiable_text failed
answer_text (ending.Unknown k) = joined (codes "c conflicts " ∷ decimal k ∷ codes "\ns UNKNOWN\n" ∷ [])
answer_text (ending.Demonstrated i x) = demo_text i x
answer_text (ending.Trimmed core) = core_text core
answer_text (ending.NotTrimmed k c) = joined (codes "c step " ∷ decimal k ∷ codes " " ∷ cause_text c ∷ codes "\ns NOT TRIMMED\n" ∷ [])
answer_text (ending.Blasted variables clauses) = blasted_text variables clauses
answer_text (ending.Affine space) = space_text space
answer_text e = plain_answer e

abbrev pub slot_text : Slot → List ℕ
slot_text slot.Formula = codes "formula"
slot_text slot.Second = codes "second"

-- the line of a formula's offence, up to its place
abbrev pub offence_text : Offence → List ℕ
offence_text (offence.NoHeader b) = joined (codes "error: formula F1 at byte " ∷ decimal b ∷ codes "\n" ∷ [])
offence_text (offence.BadHeader b) = joined (codes "error: formula F2 at byte " ∷ decimal b ∷ codes "\n" ∷ [])
offence_text (offence.BadToken b) = joined (codes "error: formula F3 at byte " ∷ decimal b ∷ codes "\n" ∷ [])
offence_text (offence.Unterminated b) = joined (codes "error: formula F4 at byte " ∷ decimal b ∷ codes "\n" ∷ [])
offence_text (offence.VarLimit b) = joined (codes "error: limit L1 at byte " ∷ decimal b ∷ codes "\n" ∷ [])

-- the message of an outcome that tells no number; nothing where an answer tells all
abbrev pub plain_message : Outcome → List ℕ
plain_message (outcome.Ended (ending.TooLong s)) = joined (codes "error: limit L2 " ∷ slot_text s ∷ codes "\n" ∷ [])
plain_message (outcome.Ended e) = []
plain_message outcome.Usage = codes "error: usage\nusage: cxsat solve FORMULA [--proof LOG] [--conflicts N] [--inprocess]\nusage: cxsat check FORMULA PROOF\nusage: cxsat elab FORMULA LOG PROOF\nusage: cxsat model FORMULA ANSWER\nusage: cxsat demo KIND SIZE SEED\nusage: cxsat trim FORMULA PROOF OUT\nusage: cxsat blast FORMULA OUT\nusage: cxsat affine FORMULA\n"
plain_message outcome.ReadFault = codes "error: read fault\n"
plain_message outcome.WriteFault = codes "error: write fault\n"
plain_message outcome.Memory = codes "error: out of memory\n"

-- what an outcome puts on the Message port
unfoldable pub message_text : Outcome → List ℕ
message_text (outcome.Ended (ending.FormulaRefused o)) = offence_text o
message_text (outcome.Ended (ending.TooManyVariables k)) = joined (codes "error: limit L3 at constraint " ∷ decimal k ∷ codes "\n" ∷ [])
message_text o = plain_message o
