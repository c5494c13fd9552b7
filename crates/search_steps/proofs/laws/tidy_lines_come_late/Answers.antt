use Rattle.search_steps.proofs.TidyLineLaws.{come_late}
use Rattle.search_steps.proofs.laws.tidy_lines_come_late.Goals as goal

pub returns : goal.returns
returns c = come_late
