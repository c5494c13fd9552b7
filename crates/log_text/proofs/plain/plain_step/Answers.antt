use Rattle.std.proofs.Common.{rules}
use Rattle.log_text.proofs.plain.plain_step.Goals as goal

pub returns-then-of_parity-2-clause-fields : goal.returns-then-of_parity-2-clause-fields
returns-then-of_parity-2-clause-fields c = search rules
