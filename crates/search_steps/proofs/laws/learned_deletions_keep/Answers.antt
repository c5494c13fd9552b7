use Rattle.search_steps.proofs.LogLaws.{delete_learned_keeps}
use Rattle.search_steps.proofs.laws.learned_deletions_keep.Goals as goal

pub returns : goal.returns
returns c = λ tidies. delete_learned_keeps {tidies = tidies}
