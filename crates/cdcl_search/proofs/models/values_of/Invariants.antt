use Rattle.std.proofs.Common.{◌≡◌, length}
use Rattle.cdcl_search.proofs.FullTrails.{AreValues}
use Rattle.cdcl_search.proofs.models.values_of.Given as goal

abbrev pub invariant-loop-index : goal.invariant-loop-index
invariant-loop-index g l = record {
  long : length l.values.items ≡ l.index;
  are : AreValues l.fn.state.trail l.index l.values.items;
}
