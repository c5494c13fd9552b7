use Rattle.solve_cli.proofs.TwoRuns.{runs_agree}
use Rattle.solve_cli.proofs.laws.runs_agree.Goals as goal

pub returns : goal.returns
returns c = runs_agree
