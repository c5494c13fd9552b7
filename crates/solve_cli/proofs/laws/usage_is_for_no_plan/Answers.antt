use Rattle.solve_cli.proofs.NoPlan.{ends_as_usage, usage_asks_nothing, has_asked}
use Rattle.solve_cli.proofs.laws.usage_is_for_no_plan.Goals as goal

pub returns : goal.returns
returns c = record { ends = ends_as_usage; only = usage_asks_nothing; other = has_asked }
