use Rattle.solve_cli.proofs.KeptHints.{logs_keep_hints}
use Rattle.solve_cli.proofs.WholeWay.{logs_elaborate, proofs_verify}
use Rattle.solve_cli.proofs.laws.refutations_are_verified.Goals as goal

pub returns-clause-elaborated : goal.returns-clause-elaborated
returns-clause-elaborated c = logs_elaborate

pub returns-clause-hints : goal.returns-clause-hints
returns-clause-hints c = logs_keep_hints

pub returns-clause-verified : goal.returns-clause-verified
returns-clause-verified c = proofs_verify
