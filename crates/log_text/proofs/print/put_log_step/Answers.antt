use Rattle.std.proofs.Common.{rules}
use Rattle.log_text.proofs.print.put_log_step.Goals as goal

pub returns-in-OriginalParity : goal.returns-in-OriginalParity
returns-in-OriginalParity g c = search rules
