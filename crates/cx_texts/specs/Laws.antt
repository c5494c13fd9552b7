-- The laws of these definitions.
use Rattle.std.specs.Prelude.{◌≡◌, ℕ, List}
use Rattle.std.specs.List.{AllByRecursion}
use Rattle.cx_base.specs.declared.steps.ProofStep.{ProofStep}
use Rattle.cx_base.specs.declared.steps.LogStep.{LogStep}
use Rattle.cx_base.specs.declared.steps.LogEvent.{LogEvent}
use Rattle.cx_base.specs.ExactlyOne.{ExactlyOne}
use Rattle.cx_base.specs.Endings.{Ending, finished}
use Rattle.cx_texts.specs.FormulaText.{ReadsAs}
use Rattle.cx_texts.specs.ProofText.{ProofReads}
use Rattle.cx_texts.specs.LogText.{LogReads, EventsRead}
use Rattle.cx_texts.specs.LogLines.{LinesRead}
use Rattle.cx_base.specs.Events.{steps_of}
use Rattle.cx_base.specs.Lines.{Line, items_of}
use Rattle.cx_texts.specs.Printed.{HasText, LineHasText, HasProofText, printed_log, printed_lines, printed_proof}

-- a text is one formula, or has one first offence
abbrev pub FormulasReadInOneWay : Type 0
FormulasReadInOneWay = (text : List ℕ) → ExactlyOne (ReadsAs text)

-- a text is one list of steps with one ending
abbrev pub ProofsReadInOneWay : Type 0
ProofsReadInOneWay = (text : List ℕ) → ExactlyOne (λ (x : List ProofStep × Ending). ProofReads text x.0 x.1)

abbrev pub LogsReadInOneWay : Type 0
LogsReadInOneWay = (text : List ℕ) → ExactlyOne (λ (x : List LogStep × Ending). LogReads text x.0 x.1)

abbrev pub EventsReadInOneWay : Type 0
EventsReadInOneWay = (text : List ℕ) → ExactlyOne (λ (x : List LogEvent × Ending). EventsRead text x.0 x.1)

-- the steps of a log's events are the steps of its text
abbrev pub EventsGiveSteps : Type 0
EventsGiveSteps = (text : List ℕ) (events : List LogEvent) → EventsRead text events finished → LogReads text (steps_of events) finished

-- a text has at most one list of lines, and the items among them are its events
abbrev pub LinesReadInOneWay : Type 0
LinesReadInOneWay = (text : List ℕ) (a b : List (Line LogEvent)) → LinesRead text a → LinesRead text b → a ≡ b

abbrev pub LinesGiveEvents : Type 0
LinesGiveEvents = (text : List ℕ) (lines : List (Line LogEvent)) → LinesRead text lines → EventsRead text (items_of lines) finished

-- what the printers write is read as what was printed
abbrev pub PrintedLogsRead : Type 0
PrintedLogsRead = (events : List LogEvent) → AllByRecursion HasText events → EventsRead (printed_log events) events finished

abbrev pub PrintedLinesRead : Type 0
PrintedLinesRead = (lines : List (Line LogEvent)) → AllByRecursion LineHasText lines → LinesRead (printed_lines lines) lines

abbrev pub PrintedProofsRead : Type 0
PrintedProofsRead = (steps : List ProofStep) → AllByRecursion HasProofText steps → ProofReads (printed_proof steps) steps finished
