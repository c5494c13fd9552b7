use Rattle.cx_base.specs.Lines.{tidy}
use Rattle.cx_texts.specs.Printed.{printed_log_line}
use Rattle.log_text.proofs.print.take_tidy.Given as goal

-- the text that is not laid out
abbrev pub ghost-of : goal.ghost-of
ghost-of g a = printed_log_line (tidy a.«_value».now)
