use Rattle.std.proofs.Common.{rules}
use Rattle.cdcl_search.proofs.rows.next_ids.Goals as goal

pub returns : goal.returns
returns c = search rules
