use Rattle.proof_trim.proofs.TrimLaws.{core_is_unmet}
use Rattle.proof_trim.proofs.laws.core_is_unmet.Goals as goal

pub returns : goal.returns
returns c = core_is_unmet
