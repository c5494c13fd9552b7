use Rattle.xor_blast.proofs.ExtendingLaws.{extend_in_one_way}
use Rattle.xor_blast.proofs.laws.blasted_extend_in_one_way.Goals as goal

pub returns : goal.returns
returns c = λ formula within. extend_in_one_way formula within
