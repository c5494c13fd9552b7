use Rattle.xor_reason.proofs.SumForms.{none_first, right_of_none}
use Rattle.xor_reason.proofs.sums.right_side.Goals as goal

pub returns-in-None : goal.returns-in-None
returns-in-None c = λ form w. right_of_none form c.args.lits.now w (none_first c.args.lits.now c.in-None.ensures.value)
