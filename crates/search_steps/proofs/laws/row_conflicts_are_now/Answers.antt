use Rattle.search_steps.proofs.CodeSteps.{row_conflict_is_now}
use Rattle.search_steps.proofs.laws.row_conflicts_are_now.Goals as goal

pub returns : goal.returns
returns c = λ tidies. row_conflict_is_now {tidies = tidies}
