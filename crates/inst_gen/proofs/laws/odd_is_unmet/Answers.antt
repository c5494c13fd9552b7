use Rattle.inst_gen.proofs.Meeting.{odd_is_unmet}
use Rattle.inst_gen.proofs.laws.odd_is_unmet.Goals as goal

pub returns : goal.returns
returns c = λ size seed low. odd_is_unmet size seed
