-- The events that a port was given, and what a sink that prints on it does to the outside.
use Rattle.std.specs.Prelude.{◌≡◌, ◌<◌, ℕ, Bool, true, false, List, [], ◌++◌, flat_map, length, take, Option, Some}
use Rattle.std.specs.List.{AllByRecursion}
use Rattle.cx_desk.specs.declared.desk.Port.TheVariants.{Proof}
use Rattle.cx_desk.specs.Outside.{Bytes, Outside}
use Rattle.cx_desk.specs.Calls.{gained, WriteFaulted}
use Rattle.cx_base.specs.declared.steps.LogEvent.{LogEvent}
use Rattle.cx_texts.specs.Tokens.{lines_from}
use Rattle.cx_texts.specs.Grammar.{spelling}
use Rattle.cx_texts.specs.LogText.{log_events, event_words_of_line}
use Rattle.cx_texts.specs.Printed.{printed_line, printed_log, HasText}
use Rattle.cx_texts.proofs.Grammars.{event_forms}
use Rattle.cx_texts.proofs.Readings.{one_reading}
use Rattle.proof_text.specs.Told.{whole_lines, begun_line}

abbrev pub event_line : LogEvent → Bytes
event_line event = printed_line (spelling log_events event)

-- the events of a text's one reading
abbrev pub events_read : Bytes → List LogEvent
events_read text = (one_reading log_events event_forms (length text) (flat_map event_words_of_line (lines_from 0 text))).0.0

-- the events of a text's whole lines
abbrev pub told_events : Bytes → List LogEvent
told_events text = flat_map events_read (whole_lines [] text)

abbrev pub events_told : Outside → Option (List LogEvent)
events_told o = Some (told_events o.written.proof)

-- after whole lines comes a proper prefix of the event's line
abbrev pub TornOn : LogEvent → Outside → Type 0
TornOn event o = HasText event × ((before : Bytes) × (k : ℕ) × (begun_line [] before ≡ []) × (k < length (event_line event)) × (o.written.proof ≡ before ++ take k (event_line event)))

-- the proof port gained the lines of these events, and nothing else changed
pub record Prints (old new : Outside) : Type 0 where
  pub events : List LogEvent
  pub texts : AllByRecursion HasText events
  pub moved : new ≡ gained Proof (printed_log events) old

-- and then a proper prefix of one more line, and a fault of writing
pub record Tears (old new : Outside) : Type 0 where
  pub events : List LogEvent
  pub texts : AllByRecursion HasText events
  pub part : LogEvent
  pub text : HasText part
  pub kept : ℕ
  pub front : kept < length (event_line part)
  pub moved : WriteFaulted (gained Proof (printed_log events ++ take kept (event_line part)) old) new

-- from a state of a sink to a later one: whether it failed, and the outside
abbrev pub Goes : Bool → Outside → Bool → Outside → Type 0
Goes true old true new = new ≡ old
Goes true old false new = ⊥
Goes false old false new = Prints old new
Goes false old true new = Tears old new
