use Rattle.std.proofs.Common.{◌≡◌, ◌≤◌, ◌++◌}
use Rattle.std.specs.List.{AllByRecursion}
use Rattle.cdcl_search.specs.Deleting.{deletions}
use Rattle.cdcl_search.specs.Tells.{as_events, IsTellable}
use Rattle.cdcl_search.specs.Ties.{row_ids}
use Rattle.cdcl_search.proofs.deleting.put_deletions.Given as goal

-- the steps so far delete all clauses of rows but the oldest ones, which are left
abbrev pub invariant-loop-left : goal.invariant-loop-left
invariant-loop-left l = record {
  few : l.left ≤ l.count;
  steps : as_events l.steps.items ++ deletions (row_ids l.first l.left) ≡ as_events l.initial.steps.items ++ deletions (row_ids l.first l.count);
  texts : AllByRecursion IsTellable l.steps.items;
}

abbrev pub decreases-loop-left : goal.decreases-loop-left
decreases-loop-left l = l.left
