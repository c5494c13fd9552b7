use Rattle.solve_cli.proofs.OneEnding.{early_or_reads, one_early}
use Rattle.solve_cli.proofs.laws.refusals_of_formulas_are_due.Goals as goal

pub returns-clause-some : goal.returns-clause-some
returns-clause-some c = λ p name limit files named. early_or_reads p name limit files named

pub returns-clause-one : goal.returns-clause-one
returns-clause-one c = one_early
