use Rattle.search_steps.proofs.SizeLaws.{steps_add_few}
use Rattle.search_steps.proofs.laws.told_steps_add_few.Goals as goal

pub returns : goal.returns
returns c = steps_add_few
