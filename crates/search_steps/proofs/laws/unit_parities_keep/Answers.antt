use Rattle.search_steps.proofs.UnitParities.{unit_parity_keeps}
use Rattle.search_steps.proofs.laws.unit_parities_keep.Goals as goal

pub returns : goal.returns
returns c = λ tidies. unit_parity_keeps {tidies = tidies}
