use Rattle.std.proofs.Common.{rules}
use Rattle.search_policy.proofs.heap.is_ahead.Goals as goal

pub returns-then-mine-its : goal.returns-then-mine-its
returns-then-mine-its c = search rules
