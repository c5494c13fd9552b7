use Rattle.solve_cli.proofs.OneEnding.{one_ending, one_computed}
use Rattle.solve_cli.proofs.laws.one_ending_is_due.Goals as goal

pub returns-clause-second : goal.returns-clause-second
returns-clause-second c = one_ending

pub returns-clause-computed : goal.returns-clause-computed
returns-clause-computed c = one_computed
