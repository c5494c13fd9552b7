use Rattle.gf2_space.proofs.SpaceLaws.{one_solution}
use Rattle.gf2_space.proofs.laws.free_variables_decide.Goals as goal

pub returns : goal.returns
returns c = one_solution
