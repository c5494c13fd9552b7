use Rattle.std.proofs.Common.{◌≡◌, ◌≤◌, ◌++◌}
use Rattle.std.specs.List.{range_with_len}
use Rattle.cdcl_core.proofs.shortening.with_ids.Given as goal

-- the ids, and this many after them
abbrev pub invariant-loop-place : goal.invariant-loop-place
invariant-loop-place l = record { few : l.place ≤ l.count; are : l.all.items ≡ l.ids ++ range_with_len l.first l.place }
