use Rattle.std.proofs.Common.{rules}
use Rattle.xlrup_check.proofs.step.take_added.Goals as goal

pub returns : goal.returns
returns c = search rules
