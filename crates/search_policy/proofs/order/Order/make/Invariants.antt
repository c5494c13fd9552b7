use Rattle.std.proofs.Common.{ℕ, ◌<◌, ◌≡◌, length, get_or}
use Rattle.search_policy.proofs.order.Order.make.Given as goal

abbrev pub invariant-loop-index : goal.invariant-loop-index
invariant-loop-index l = record {
  cells : length l.cells.items ≡ l.index;
  places : length l.places.items ≡ l.index;
  cell : (k : ℕ) → k < l.index → get_or l.cells.items k 0 ≡ k;
  place : (k : ℕ) → k < l.index → get_or l.places.items k 0 ≡ k;
}
