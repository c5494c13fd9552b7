use Rattle.search_steps.proofs.CodeSteps.{tied_back}
use Rattle.search_steps.proofs.laws.jumps_stay_tied.Goals as goal

pub returns : goal.returns
returns c = tied_back
