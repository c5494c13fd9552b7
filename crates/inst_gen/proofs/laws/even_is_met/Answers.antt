use Rattle.inst_gen.proofs.Meeting.{even_is_met}
use Rattle.inst_gen.proofs.laws.even_is_met.Goals as goal

pub returns : goal.returns
returns c = λ size seed low. even_is_met size seed
