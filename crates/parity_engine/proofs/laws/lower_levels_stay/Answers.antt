use Rattle.parity_engine.proofs.Settled.{lower_levels_stay}
use Rattle.parity_engine.proofs.laws.lower_levels_stay.Goals as goal

pub returns : goal.returns
returns c = lower_levels_stay
