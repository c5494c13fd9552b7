use Rattle.cx_texts.proofs.TextLaws.{one_proof_reading}
use Rattle.cx_texts.proofs.laws.proofs_read_in_one_way.Goals as goal

pub returns : goal.returns
returns c = one_proof_reading
