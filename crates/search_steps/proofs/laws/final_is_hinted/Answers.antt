use Rattle.search_steps.specs.Hints.{IsNamedBy}
use Rattle.search_steps.proofs.LearnedLaws.{followed_is_hinted}
use Rattle.search_steps.proofs.laws.final_is_hinted.Goals as goal

pub returns : goal.returns
returns c = λ table trail below kept clause n resolved lits now final. followed_is_hinted table trail (IsNamedBy table) (λ c k h. h) clause n now resolved lits final.follows
