use Rattle.std.proofs.Common.{ℕ, ◌≡◌, ◌*◌, length}
use Rattle.watch_lists.specs.Walking.{AreOf}
use Rattle.watch_lists.specs.Renaming.{AreRenamedBelow}
use Rattle.watch_lists.proofs.renaming.move_all.Given as goal

abbrev pub invariant-all : goal.invariant-all
invariant-all l = record {
  pairs : length l.lists.held ≡ 2 * length l.nodes.attached.items;
  lists : l.lists.lists ≡ l.fn.lists.lists;
  over : (vars : ℕ) → AreOf vars l.fn.lists.held → AreOf vars l.lists.held;
  below : AreRenamedBelow l.moved l.at l.fn.lists.held l.fn.nodes.attached.items l.lists.held l.nodes.attached.items;
}
