use Rattle.std.proofs.Common.{length}
use Rattle.search_policy.specs.Heaps.{AreShuffled, IsHeap, AreSameFrom}
use Rattle.search_policy.proofs.heap.rebuild.Given as goal

abbrev pub invariant-all : goal.invariant-all
invariant-all l = record {
  shuffled : AreShuffled (length l.scores) l.heap.cells.items l.heap.places.items;
  ordered : IsHeap l.scores l.heap.cells.items l.k;
  same : AreSameFrom l.count l.fn.heap.cells.items l.heap.cells.items;
}
