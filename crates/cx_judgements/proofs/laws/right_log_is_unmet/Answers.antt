use Rattle.cx_judgements.proofs.TextSoundness.{right_log_is_unmet}
use Rattle.cx_judgements.proofs.laws.right_log_is_unmet.Goals as goal

pub returns : goal.returns
returns c = right_log_is_unmet
