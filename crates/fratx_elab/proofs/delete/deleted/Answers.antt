use Rattle.std.proofs.Common.{rules}
use Rattle.fratx_elab.proofs.delete.deleted.Goals as goal

pub returns-then-count-number : goal.returns-then-count-number
returns-then-count-number c = search rules

pub returns-else-count-number : goal.returns-else-count-number
returns-else-count-number c = search rules
