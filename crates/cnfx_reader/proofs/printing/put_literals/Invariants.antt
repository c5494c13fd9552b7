use Rattle.std.proofs.Common.{◌≡◌, ◌≤◌, ◌-◌, length, take}
use Rattle.std.specs.List.{flat_map}
use Rattle.cx_desk.specs.Calls.{gained}
use Rattle.cnfx_reader.specs.PrintedFormula.{literal_text}
use Rattle.cnfx_reader.proofs.printing.put_literals.Given as goal

abbrev pub invariant-loop-done : goal.invariant-loop-done
invariant-loop-done g l = record {
  within : l.done ≤ length l.lits;
  put : g.D.Desk.outside l.desk ≡ gained l.port (flat_map literal_text (take l.done l.lits)) (g.D.Desk.outside l.initial.desk);
}

abbrev pub decreases-loop-done : goal.decreases-loop-done
decreases-loop-done g l = length l.lits - l.done
