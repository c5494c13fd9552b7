use Rattle.search_steps.proofs.UnitSteps.{unit_rests_keeps}
use Rattle.search_steps.proofs.laws.units_keep.Goals as goal

pub returns : goal.returns
returns c = λ tidies. unit_rests_keeps {tidies = tidies}
