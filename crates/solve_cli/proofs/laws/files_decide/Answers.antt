use Rattle.solve_cli.proofs.FilesDecide.{files_decide}
use Rattle.solve_cli.proofs.laws.files_decide.Goals as goal

pub returns : goal.returns
returns c = files_decide
