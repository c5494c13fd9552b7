use Rattle.std.proofs.Common.{◌≡◌, length}
use Rattle.fratx_elab.specs.Contents.{LeastBefore}
use Rattle.fratx_elab.proofs.content_index.firsts_of.Given as goal

abbrev pub invariant-loop-place : goal.invariant-loop-place
invariant-loop-place l = record {
  count : length l.firsts.items ≡ length l.entries;
  least : LeastBefore l.place l.entries l.firsts.items;
}
