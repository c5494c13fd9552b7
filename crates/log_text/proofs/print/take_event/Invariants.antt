use Rattle.log_text.specs.Told.{event_line}
use Rattle.log_text.proofs.print.take_event.Given as goal

-- the text that is not laid out
abbrev pub ghost-of : goal.ghost-of
ghost-of g a = event_line a.«_value».now
