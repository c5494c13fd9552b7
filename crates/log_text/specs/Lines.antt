-- The lines that a port was given, events and tidy lines, and what a sink that prints them does to the outside.
use Rattle.std.specs.Prelude.{◌≡◌, ◌<◌, ◌^◌, ℕ, Bool, true, false, List, [], ◌∷◌, ◌++◌, map, flat_map, length, take, Option, Some, None}
use Rattle.std.specs.List.{AllByRecursion}
use Rattle.cx_desk.specs.declared.desk.Port.TheVariants.{Proof}
use Rattle.cx_desk.specs.Outside.{Bytes, Outside}
use Rattle.cx_desk.specs.Calls.{gained, WriteFaulted}
use Rattle.cx_base.specs.Lines.{Line, item, tidy}
use Rattle.cx_base.specs.declared.steps.LogEvent.{LogEvent}
use Rattle.cx_texts.specs.Tokens.{lines_from}
use Rattle.cx_texts.specs.LogText.{tidy_of_line}
use Rattle.cx_texts.specs.Printed.{printed_log_line, printed_lines, LineHasText}
use Rattle.proof_text.specs.Told.{whole_lines, begun_line}
use Rattle.log_text.specs.Told.{events_read}

-- the number of a text that is one whole line, and a tidy one
abbrev pub tidy_alone : List (List (ℕ × ℕ)) → Option ℕ
tidy_alone (line ∷ [] ∷ []) = tidy_of_line line
tidy_alone _ = None

abbrev pub tidy_or : List LogEvent → Option ℕ → List (Line LogEvent)
tidy_or events (Some r) = tidy r ∷ []
tidy_or events None = map item events

-- a tidy line, or the lines of the events that the text is read as
abbrev pub lines_read : Bytes → List (Line LogEvent)
lines_read text = tidy_or (events_read text) (tidy_alone (lines_from 0 text))

-- the lines of a text's whole lines
abbrev pub told_lines : Bytes → List (Line LogEvent)
told_lines text = flat_map lines_read (whole_lines [] text)

abbrev pub lines_told : Outside → Option (List (Line LogEvent))
lines_told o = Some (told_lines o.written.proof)

-- after whole lines comes a proper prefix of the tidy line
abbrev pub TornTidyOn : ℕ → Outside → Type 0
TornTidyOn r o = (r < 2 ^ 64)
    × ((before : Bytes) × (k : ℕ) × (begun_line [] before ≡ []) × (k < length (printed_log_line (tidy r))) × (o.written.proof ≡ before ++ take k (printed_log_line (tidy r))))

-- the proof port gained these lines, and nothing else changed
pub record PrintsLines (old new : Outside) : Type 0 where
  pub lines : List (Line LogEvent)
  pub texts : AllByRecursion LineHasText lines
  pub moved : new ≡ gained Proof (printed_lines lines) old

-- and then a proper prefix of one more line, and a fault of writing
pub record TearsLine (old new : Outside) : Type 0 where
  pub lines : List (Line LogEvent)
  pub texts : AllByRecursion LineHasText lines
  pub part : Line LogEvent
  pub text : LineHasText part
  pub kept : ℕ
  pub front : kept < length (printed_log_line part)
  pub moved : WriteFaulted (gained Proof (printed_lines lines ++ take kept (printed_log_line part)) old) new

-- from a state of a sink to a later one: whether it failed, and the outside
abbrev pub GoesByLines : Bool → Outside → Bool → Outside → Type 0
GoesByLines true old true new = new ≡ old
GoesByLines true old false new = ⊥
GoesByLines false old false new = PrintsLines old new
GoesByLines false old true new = TearsLine old new
