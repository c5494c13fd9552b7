use Rattle.search_steps.proofs.Rounds.{deleted_keeps}
use Rattle.search_steps.proofs.laws.deletions_keep.Goals as goal

pub returns : goal.returns
returns c = λ tidies. deleted_keeps {tidies = tidies}
