use Rattle.std.proofs.Common.{◌≡◌, ◌≤◌, ◌-◌, ◌*◌, length, drop}
use Rattle.cnfx_reader.specs.Groups.{lines_between}
use Rattle.cnfx_reader.specs.declared.lay_out.TheConstants.{LINE}
use Rattle.cnfx_reader.proofs.lay_out.lay_out_group.Given as goal

abbrev pub invariant-loop-left : goal.invariant-loop-left
invariant-loop-left l = record {
  order : l.from ≤ l.left;
  high : l.left ≤ l.to;
  room : (l.left - l.from) * LINE ≤ l.at;
  within : l.at ≤ length l.sheet;
  laid : drop l.at l.sheet ≡ lines_between l.formula.constraints l.left l.to;
}

abbrev pub decreases-loop-left : goal.decreases-loop-left
decreases-loop-left l = l.left
