use Rattle.std.proofs.Common.{arith, rules}
use Rattle.std.proofs.lemmas.Grind.{common_steps}
use Rattle.cdcl_core.proofs.narrowing.push_constraint.Goals as goal

pub returns-in-Assume : goal.returns-in-Assume
returns-in-Assume c = first_of (search (rules, c.end_assume.ensures), grind (arith, common_steps, c.end_assume.ensures))
