use Rattle.proof_trim.proofs.TrimLaws.{trimmed_is_accepted}
use Rattle.proof_trim.proofs.laws.trimmed_is_accepted.Goals as goal

pub returns : goal.returns
returns c = trimmed_is_accepted
