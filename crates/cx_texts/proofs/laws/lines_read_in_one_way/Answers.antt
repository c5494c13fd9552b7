use Rattle.cx_texts.proofs.LogLines.{one_list_of_lines}
use Rattle.cx_texts.proofs.laws.lines_read_in_one_way.Goals as goal

pub returns : goal.returns
returns c = one_list_of_lines
