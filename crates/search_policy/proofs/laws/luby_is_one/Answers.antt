use Rattle.search_policy.proofs.LubyLaws.{one_number}
use Rattle.search_policy.proofs.laws.luby_is_one.Goals as goal

pub returns : goal.returns
returns c = λ i a b. one_number
