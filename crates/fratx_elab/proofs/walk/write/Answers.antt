use Rattle.std.proofs.Common.{rules}
use Rattle.fratx_elab.proofs.walk.write.Goals as goal

pub returns-in-Some-clause-told : goal.returns-in-Some-clause-told
returns-in-Some-clause-told g c = search rules
