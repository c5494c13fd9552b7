use Rattle.cx_texts.proofs.PrintedProofs.{printed_proof_reads}
use Rattle.cx_texts.proofs.laws.printed_proofs_read.Goals as goal

pub returns : goal.returns
returns c = printed_proof_reads
