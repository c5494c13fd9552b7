use Rattle.std.proofs.Common.{rules}
use Rattle.model_out.proofs.read.pass_end.Goals as goal

pub returns-in-Some : goal.returns-in-Some
returns-in-Some c = search rules
