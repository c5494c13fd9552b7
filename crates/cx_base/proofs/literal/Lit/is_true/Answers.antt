use Rattle.std.proofs.Common.{rules}
use Rattle.cx_base.proofs.literal.Lit.is_true.Goals as goal

pub returns : goal.returns
returns c = search rules
