use Rattle.search_steps.proofs.LogLaws.{learned_keeps}
use Rattle.search_steps.proofs.laws.learned_clauses_keep.Goals as goal

pub returns : goal.returns
returns c = λ tidies. learned_keeps {tidies = tidies}
