use Rattle.std.proofs.Common.{rules}
use Rattle.proof_trim.proofs.before.want_before.Goals as goal

pub returns-in_ok-want_hints-in-Some-clause-wanted : goal.returns-in_ok-want_hints-in-Some-clause-wanted
returns-in_ok-want_hints-in-Some-clause-wanted c = search rules
