use Rattle.std.proofs.Common.{◌≡◌, ◌≤◌, filter_map, take}
use Rattle.std.specs.List.{range_with_len}
use Rattle.cx_semantics.specs.Marked.{mark_of}
use Rattle.plain_tests.proofs.marked.marks_in_order.Given as goal

abbrev pub invariant-loop-event : goal.invariant-loop-event
invariant-loop-event l = record {
  marks : filter_map mark_of (take l.event-index l.events) ≡ range_with_len 1 l.count;
  few : l.count ≤ l.event-index;
}
