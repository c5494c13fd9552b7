use Rattle.search_steps.proofs.SizeLaws.{row_reason_adds, deletions_add_none, round_adds_one}
use Rattle.search_steps.proofs.laws.steps_add_few.Goals as goal

pub returns : goal.returns
returns c s = (row_reason_adds s, deletions_add_none s, round_adds_one s)
