use Rattle.std.proofs.Common.{◌≤◌, ◌-◌, length}
use Rattle.search_policy.specs.Heaps.{AreShuffled, IsSinking, AreSameFrom}
use Rattle.search_policy.proofs.heap.sift_down.Given as goal

abbrev pub invariant-sink : goal.invariant-sink
invariant-sink l = record {
  shuffled : AreShuffled (length l.scores) l.heap.cells.items l.heap.places.items;
  sinking : IsSinking l.scores l.heap.cells.items l.count l.at;
  inside : l.at ≤ l.count;
  same : AreSameFrom l.count l.fn.heap.cells.items l.heap.cells.items;
}

abbrev pub decreases-sink : goal.decreases-sink
decreases-sink l = l.count - l.at
