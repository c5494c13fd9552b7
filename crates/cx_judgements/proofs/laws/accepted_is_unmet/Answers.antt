use Rattle.cx_judgements.proofs.TextSoundness.{accepted_is_unmet}
use Rattle.cx_judgements.proofs.laws.accepted_is_unmet.Goals as goal

pub returns : goal.returns
returns c = accepted_is_unmet
