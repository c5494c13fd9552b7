use Rattle.search_steps.proofs.TidyLineLaws.{go_on}
use Rattle.search_steps.proofs.laws.tidy_lines_go_on.Goals as goal

pub returns : goal.returns
returns c = go_on
