use Rattle.std.proofs.Common.{rules}
use Rattle.cdcl_search.proofs.models.value_on.Goals as goal

pub returns-in-Some : goal.returns-in-Some
returns-in-Some c = search rules
