use Rattle.std.proofs.Common.{rules}
use Rattle.proof_text.proofs.proof_list.ProofList.of.Goals as goal

pub returns : goal.returns
returns c = search rules
