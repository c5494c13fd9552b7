use Rattle.search_steps.proofs.RoundEnds.{round_is_tidy}
use Rattle.search_steps.proofs.laws.rounds_are_tidy.Goals as goal

pub returns : goal.returns
returns c = λ tidies. round_is_tidy {tidies = tidies}
