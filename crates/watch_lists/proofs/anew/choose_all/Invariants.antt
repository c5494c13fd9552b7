use Rattle.std.proofs.Common.{ℕ, ◌≡◌, ◌*◌, length}
use Rattle.watch_lists.specs.Anew.{AreChosenBelow, AreWatchable}
use Rattle.watch_lists.specs.Walking.{AreOf}
use Rattle.watch_lists.proofs.anew.choose_all.Given as goal

abbrev pub invariant-all : goal.invariant-all
invariant-all l = record {
  pairs : length l.lists.held ≡ 2 * length l.nodes.attached.items;
  count : length l.nodes.attached.items ≡ length l.fn.nodes.attached.items;
  lists : l.lists.lists ≡ l.fn.lists.lists;
  over : (vars : ℕ) → AreWatchable vars l.arena → AreOf vars l.fn.lists.held → AreOf vars l.lists.held;
  chosen : AreChosenBelow l.arena l.at l.lists.held l.nodes.attached.items;
}
