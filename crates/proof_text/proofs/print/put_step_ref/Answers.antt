use Rattle.std.proofs.Common.{rules}
use Rattle.proof_text.proofs.print.put_step_ref.Goals as goal

pub returns-in-Parity : goal.returns-in-Parity
returns-in-Parity g c = search rules
