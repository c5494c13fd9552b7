use Rattle.cx_semantics.proofs.Soundness.{accepted_steps_are_unmet}
use Rattle.cx_semantics.proofs.laws.accepted_steps_are_unmet.Goals as goal

pub returns : goal.returns
returns c = accepted_steps_are_unmet
