use Rattle.std.proofs.Common.{rules}
use Rattle.model_out.proofs.put.space_before.Goals as goal

pub returns-else-place-eq0 : goal.returns-else-place-eq0
returns-else-place-eq0 c = search rules

pub returns-then-place-ne0 : goal.returns-then-place-ne0
returns-then-place-ne0 c = search rules
