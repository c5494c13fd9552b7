use Rattle.std.proofs.Common.{arith}
use Rattle.std.proofs.lemmas.Grind.{common_steps}
use Rattle.cdcl_core.proofs.refuting.is_refuted.Goals as goal

pub returns-in-Clause-clause-other : goal.returns-in-Clause-clause-other
returns-in-Clause-clause-other c = grind (arith, common_steps, c.level.ensures.level)
