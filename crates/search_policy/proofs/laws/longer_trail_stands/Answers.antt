use Rattle.search_policy.proofs.StandLaws.{longer_stands}
use Rattle.search_policy.proofs.laws.longer_trail_stands.Goals as goal

pub returns : goal.returns
returns c = longer_stands
