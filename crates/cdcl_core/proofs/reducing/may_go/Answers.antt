use Rattle.std.proofs.Common.{rules}
use Rattle.cdcl_core.proofs.reducing.may_go.Goals as goal

pub returns-then-state-ge751 : goal.returns-then-state-ge751
returns-then-state-ge751 c = search rules
