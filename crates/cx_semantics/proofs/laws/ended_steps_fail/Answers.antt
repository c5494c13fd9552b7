use Rattle.cx_semantics.proofs.FailingLaws.{ended_steps_fail}
use Rattle.cx_semantics.proofs.laws.ended_steps_fail.Goals as goal

pub returns : goal.returns
returns c = ended_steps_fail
