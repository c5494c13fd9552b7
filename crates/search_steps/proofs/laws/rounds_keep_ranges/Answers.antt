use Rattle.search_steps.proofs.IdLaws.{round_ranged}
use Rattle.search_steps.proofs.laws.rounds_keep_ranges.Goals as goal

pub returns : goal.returns
returns c = round_ranged
