use Rattle.std.proofs.Common.{◌<◌, length}
use Rattle.search_policy.specs.Heaps.{AreShuffled, IsRising, AreSameFrom}
use Rattle.search_policy.proofs.heap.sift_up.Given as goal

abbrev pub invariant-rise : goal.invariant-rise
invariant-rise l = record {
  shuffled : AreShuffled (length l.scores) l.heap.cells.items l.heap.places.items;
  rising : IsRising l.scores l.heap.cells.items l.count l.at;
  inside : l.at < l.count;
  same : AreSameFrom l.count l.fn.heap.cells.items l.heap.cells.items;
}

abbrev pub decreases-rise : goal.decreases-rise
decreases-rise l = l.at
