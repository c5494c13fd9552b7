use Rattle.std.proofs.Common.{◌≡◌, ◌≤◌, ◌+◌, ◌-◌, ◌*◌, ◌++◌, length, drop, flat_map}
use Rattle.step_text.specs.Spaced.{spaced_id}
use Rattle.step_text.specs.declared.lay_out.TheConstants.{LONGEST}
use Rattle.step_text.proofs.lay_out.lay_out_ids.Given as goal

abbrev pub invariant-loop-left : goal.invariant-loop-left
invariant-loop-left l = record {
  left : l.left ≤ length l.members;
  room : l.left * LONGEST ≤ l.at;
  low : l.fn.end ≤ l.at + (length l.members - l.left) * LONGEST;
  high : l.at ≤ l.fn.end;
  laid : drop l.at l.sheet ≡ flat_map spaced_id (drop l.left l.members) ++ drop l.fn.end l.initial.sheet;
}

abbrev pub decreases-loop-left : goal.decreases-loop-left
decreases-loop-left l = l.left
