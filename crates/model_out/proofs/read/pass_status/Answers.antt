use Rattle.std.proofs.Common.{rules}
use Rattle.model_out.proofs.read.pass_status.Goals as goal

pub returns-then-alone : goal.returns-then-alone
returns-then-alone c = search rules
