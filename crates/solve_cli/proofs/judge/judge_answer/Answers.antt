use Rattle.std.proofs.Common.{rules}
use Rattle.solve_cli.proofs.judge.judge_answer.Goals as goal

pub returns-in-Some : goal.returns-in-Some
returns-in-Some c = search rules
