use Rattle.cx_texts.proofs.LogLines.{printed_lines_read}
use Rattle.cx_texts.proofs.laws.printed_lines_read.Goals as goal

pub returns : goal.returns
returns c = printed_lines_read
