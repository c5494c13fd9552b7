use Rattle.std.proofs.Common.{◌≡◌, ◌≤◌, ◌+◌, ◌-◌, ◌*◌, ◌++◌, length, drop, flat_map}
use Rattle.cnfx_reader.specs.PrintedFormula.{literal_text}
use Rattle.cnfx_reader.specs.declared.lay_out.TheConstants.{LONGEST}
use Rattle.cnfx_reader.proofs.lay_out.lay_out_literals.Given as goal

abbrev pub invariant-loop-left : goal.invariant-loop-left
invariant-loop-left l = record {
  left : l.left ≤ length l.lits;
  room : l.left * LONGEST ≤ l.at;
  low : l.fn.end ≤ l.at + (length l.lits - l.left) * LONGEST;
  high : l.at ≤ l.fn.end;
  laid : drop l.at l.sheet ≡ flat_map literal_text (drop l.left l.lits) ++ drop l.fn.end l.initial.sheet;
}

abbrev pub decreases-loop-left : goal.decreases-loop-left
decreases-loop-left l = l.left
