use Rattle.std.proofs.Common.{rules}
use Rattle.proof_trim.proofs.head.StepHead.pack.Goals as goal

pub returns-then-self-lt-TOO_MANY : goal.returns-then-self-lt-TOO_MANY
returns-then-self-lt-TOO_MANY c = search rules
