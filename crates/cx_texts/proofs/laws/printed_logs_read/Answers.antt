use Rattle.cx_texts.proofs.PrintedLogs.{printed_log_reads}
use Rattle.cx_texts.proofs.laws.printed_logs_read.Goals as goal

pub returns : goal.returns
returns c = printed_log_reads
