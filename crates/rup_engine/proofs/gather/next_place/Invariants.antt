use Rattle.std.proofs.Common.{ℕ, ◌≢◌, Contains}
use Rattle.std.specs.Ordering.{nat_cmp}
use Rattle.std.specs.BinaryHeap.{heap_items, heap_len, IsHeap}
use Rattle.rup_engine.proofs.gather.next_place.Given as goal

abbrev pub invariant-loop-place : goal.invariant-loop-place
invariant-loop-place l = record {
  fewer : (p : ℕ) → Contains (heap_items l.places) p → Contains (heap_items l.initial.places) p;
  others : (p : ℕ) → Contains (heap_items l.initial.places) p → p ≢ l.before → Contains (heap_items l.places) p;
  heap : IsHeap nat_cmp (heap_items l.initial.places) → IsHeap nat_cmp (heap_items l.places);
}

abbrev pub decreases-loop-place : goal.decreases-loop-place
decreases-loop-place l = heap_len l.places
