use Rattle.std.proofs.Common.{rules}
use Rattle.solve_cli.proofs.judge.checked.Goals as goal

pub returns-in-Ok-Refused : goal.returns-in-Ok-Refused
returns-in-Ok-Refused c = search rules
