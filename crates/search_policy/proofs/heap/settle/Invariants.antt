use Rattle.std.proofs.Common.{◌≤◌, length}
use Rattle.search_policy.specs.Heaps.{AreShuffled, IsHeap, HasOpenOnes}
use Rattle.search_policy.proofs.heap.settle.Given as goal

abbrev pub invariant-top : goal.invariant-top
invariant-top l = record {
  shuffled : AreShuffled (length l.scores) l.heap.cells.items l.heap.places.items;
  ordered : IsHeap l.scores l.heap.cells.items l.left;
  stand : HasOpenOnes (length l.scores) l.trail.entries l.heap.places.items l.left;
  few : l.left ≤ l.count;
}

abbrev pub decreases-top : goal.decreases-top
decreases-top l = l.left
