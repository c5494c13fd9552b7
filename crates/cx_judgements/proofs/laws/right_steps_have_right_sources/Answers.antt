use Rattle.cx_judgements.proofs.RightSources.{have_right_sources}
use Rattle.cx_judgements.proofs.laws.right_steps_have_right_sources.Goals as goal

pub returns : goal.returns
returns c = have_right_sources
