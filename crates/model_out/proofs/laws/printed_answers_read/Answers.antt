use Rattle.model_out.proofs.PrintedLaws.{printed_reads}
use Rattle.model_out.proofs.laws.printed_answers_read.Goals as goal

pub returns : goal.returns
returns c = printed_reads
