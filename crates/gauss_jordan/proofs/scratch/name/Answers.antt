use Rattle.std.proofs.Common.{rules}
use Rattle.gauss_jordan.proofs.scratch.name.Goals as goal

pub returns-then-is_none : goal.returns-then-is_none
returns-then-is_none c = search rules
