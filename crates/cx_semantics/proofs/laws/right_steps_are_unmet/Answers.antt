use Rattle.cx_semantics.proofs.Soundness.{right_steps_are_unmet}
use Rattle.cx_semantics.proofs.laws.right_steps_are_unmet.Goals as goal

pub returns : goal.returns
returns c = right_steps_are_unmet
