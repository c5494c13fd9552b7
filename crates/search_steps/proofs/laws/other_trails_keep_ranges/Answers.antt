use Rattle.search_steps.proofs.IdLaws.{with_trail}
use Rattle.search_steps.proofs.laws.other_trails_keep_ranges.Goals as goal

pub returns : goal.returns
returns c = λ formula bound next row_next s i es r. with_trail formula bound next row_next s.trail es s.moment r i
