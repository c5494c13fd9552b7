use Rattle.std.proofs.Common.{◌≡◌, pos, map, take, length}
use Rattle.fratx_elab.proofs.take.same_hints.Given as goal

abbrev pub invariant-loop-place : goal.invariant-loop-place
invariant-loop-place l = record {
  so_far : take l.place l.hints.items ≡ map pos (take l.place l.ids);
  count : length l.hints.items ≡ length l.ids;
}
