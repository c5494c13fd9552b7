use Rattle.std.proofs.Common.{rules}
use Rattle.search_policy.proofs.assumptions.is_open.Goals as goal

pub returns-in-False-clause-no_value : goal.returns-in-False-clause-no_value
returns-in-False-clause-no_value c = search rules
