use Rattle.cx_texts.specs.Printed.{printed_log}
use Rattle.log_text.proofs.desk_log.DeskLogSink.take_unmade.Given as goal

-- the lines that are not laid out
abbrev pub ghost-of : goal.ghost-of
ghost-of g a = printed_log (g.E.Unmade.items a.«_value».now)
