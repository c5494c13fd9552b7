use Rattle.std.proofs.Common.{rules}
use Rattle.cdcl_core.proofs.recovering.step_of.Goals as goal

pub returns : goal.returns
returns c = search rules
