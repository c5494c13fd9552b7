use Rattle.std.proofs.Common.{rules}
use Rattle.cx_texts.proofs.integer.small_integer.Goals as goal

pub returns-else-magnitude-eq0 : goal.returns-else-magnitude-eq0
returns-else-magnitude-eq0 c = search rules
