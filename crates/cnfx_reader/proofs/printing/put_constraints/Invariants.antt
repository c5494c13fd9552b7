use Rattle.std.proofs.Common.{◌≡◌, ◌≤◌, ◌-◌, length}
use Rattle.cx_desk.specs.Calls.{gained}
use Rattle.cnfx_reader.specs.Groups.{lines_up_to}
use Rattle.cnfx_reader.proofs.printing.put_constraints.Given as goal

abbrev pub invariant-loop-done : goal.invariant-loop-done
invariant-loop-done g l = record {
  within : l.done ≤ length l.formula.constraints;
  put : g.D.Desk.outside l.desk ≡ gained l.port (lines_up_to l.formula.constraints l.done) (g.D.Desk.outside l.initial.desk);
}

abbrev pub decreases-loop-done : goal.decreases-loop-done
decreases-loop-done g l = length l.formula.constraints - l.done
