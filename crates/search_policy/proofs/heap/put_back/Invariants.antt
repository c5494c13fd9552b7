use Rattle.std.proofs.Common.{ℕ, ◌<◌, ◌≤◌, ◌-◌, length}
use Rattle.cx_trail.specs.Sequence.{entry_at}
use Rattle.search_policy.specs.Heaps.{item_at, IsOrder}
use Rattle.search_policy.proofs.heap.put_back.Given as goal

abbrev pub invariant-back : goal.invariant-back
invariant-back l = record {
  order : IsOrder l.scores l.heap.cells.items l.heap.places.items l.left;
  stays : (v : ℕ) → v < length l.scores → item_at l.fn.heap.places.items v < l.count → item_at l.heap.places.items v < l.left;
  inside : l.place ≤ length l.trail.entries;
  put : (i : ℕ) → l.place ≤ i → i < length l.trail.entries → item_at l.heap.places.items ((entry_at l.trail.entries i).literal.variable - 1) < l.left;
}

abbrev pub decreases-back : goal.decreases-back
decreases-back l = l.place
