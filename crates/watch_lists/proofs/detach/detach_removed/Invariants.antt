use Rattle.std.proofs.Common.{◌≡◌, length}
use Rattle.watch_lists.specs.Detaching.{AreLeft}
use Rattle.watch_lists.proofs.detach.detach_removed.Given as goal

abbrev pub invariant-all : goal.invariant-all
invariant-all l = record {
  flags : length l.nodes.attached.items ≡ length l.fn.nodes.attached.items;
  left : AreLeft l.arena 0 l.at l.fn.nodes.attached.items l.nodes.attached.items;
}
