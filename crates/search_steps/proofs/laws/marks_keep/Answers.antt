use Rattle.search_steps.proofs.LogLaws.{mark_keeps}
use Rattle.search_steps.proofs.laws.marks_keep.Goals as goal

pub returns : goal.returns
returns c = λ tidies. mark_keeps {tidies = tidies}
