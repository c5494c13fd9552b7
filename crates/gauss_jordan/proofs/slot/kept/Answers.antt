use Rattle.std.proofs.Common.{rules}
use Rattle.gauss_jordan.proofs.slot.kept.Goals as goal

pub returns-in-Some : goal.returns-in-Some
returns-in-Some c = search rules
