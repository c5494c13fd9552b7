use Rattle.search_steps.proofs.CodeSteps.{clause_conflict_is_now}
use Rattle.search_steps.proofs.laws.clause_conflicts_are_now.Goals as goal

pub returns : goal.returns
returns c = λ tidies. clause_conflict_is_now {tidies = tidies}
