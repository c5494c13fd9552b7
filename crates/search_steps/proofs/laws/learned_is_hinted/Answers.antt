use Rattle.search_steps.specs.Hints.{IsNamedBy}
use Rattle.search_steps.proofs.LearnedLaws.{followed_is_hinted}
use Rattle.search_steps.proofs.laws.learned_is_hinted.Goals as goal

pub returns : goal.returns
returns c = λ table trail conflict n resolved lits now learned. followed_is_hinted table trail (IsNamedBy table) (λ c k h. h) conflict n now resolved lits learned.follows
