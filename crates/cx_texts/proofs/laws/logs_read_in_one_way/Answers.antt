use Rattle.cx_texts.proofs.TextLaws.{one_log_reading}
use Rattle.cx_texts.proofs.laws.logs_read_in_one_way.Goals as goal

pub returns : goal.returns
returns c = one_log_reading
