use Rattle.search_policy.proofs.PickLaws.{one_pick}
use Rattle.search_policy.proofs.laws.picks_are_one.Goals as goal

pub returns : goal.returns
returns c = one_pick
