use Rattle.std.proofs.Common.{rules}
use Rattle.proof_rules.proofs.hints.judge_hints.Goals as goal

pub returns : goal.returns
returns c = search rules
