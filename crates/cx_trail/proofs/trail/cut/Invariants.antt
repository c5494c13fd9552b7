use Rattle.std.proofs.Common.{ℕ, ◌≡◌, ◌<◌, ◌≤◌, ◌+◌, ◌*◌, List, length, take}
use Rattle.cx_trail.specs.declared.entry.Entry.{Entry}
use Rattle.cx_trail.specs.Sequence.{entry_at}
use Rattle.cx_trail.specs.Cells.{AreApart, AreTruths}
use Rattle.cx_trail.proofs.trail.cut.Given as goal

abbrev pub invariant-loop-left : goal.invariant-loop-left
invariant-loop-left l = record {
  few : l.left ≤ l.count;
  above : (i : ℕ) → l.left ≤ i → i < l.count → l.level < (entry_at l.cells i).level;
  size : length l.truths.items ≡ 2 * length l.cells + 2;
  truths : (whole : List Entry) → AreApart whole → length whole ≡ length l.cells → take l.count whole ≡ take l.count l.cells
      → AreTruths (length whole) l.count whole l.fn.truths.items → AreTruths (length whole) l.left whole l.truths.items;
}

abbrev pub decreases-loop-left : goal.decreases-loop-left
decreases-loop-left l = l.left
