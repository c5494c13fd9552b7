use Rattle.std.proofs.Common.{rules, arith}
use Rattle.std.proofs.lemmas.Grind.{common_steps}
use Rattle.fratx_elab.proofs.one_step.ends_log.Goals as goal

pub returns-in-Clause : goal.returns-in-Clause
returns-in-Clause c = first_of (search (rules, c.is_ending_integers.ensures), grind (arith, common_steps, c.is_ending_integers.ensures))
