use Rattle.search_steps.proofs.RoundEnds.{round_stays_tied}
use Rattle.search_steps.proofs.laws.rounds_stay_tied.Goals as goal

pub returns : goal.returns
returns c = λ tidies. round_stays_tied {tidies = tidies}
