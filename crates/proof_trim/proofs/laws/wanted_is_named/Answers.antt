use Rattle.proof_trim.proofs.MarkLaws.{wanted_is_named}
use Rattle.proof_trim.proofs.laws.wanted_is_named.Goals as goal

pub returns : goal.returns
returns c = wanted_is_named
