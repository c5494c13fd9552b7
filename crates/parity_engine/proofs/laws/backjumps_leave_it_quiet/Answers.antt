use Rattle.parity_engine.proofs.Settled.{back_is_silent}
use Rattle.parity_engine.proofs.laws.backjumps_leave_it_quiet.Goals as goal

pub returns : goal.returns
returns c = back_is_silent
