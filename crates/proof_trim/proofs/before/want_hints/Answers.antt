use Rattle.std.proofs.Common.{rules}
use Rattle.proof_trim.proofs.before.want_hints.Goals as goal

pub returns-in-Some : goal.returns-in-Some
returns-in-Some c = search rules
