use Rattle.std.proofs.Common.{rules}
use Rattle.cx_trail.proofs.forgetting.forget_reason.Goals as goal

pub returns-in_default : goal.returns-in_default
returns-in_default c = search rules
