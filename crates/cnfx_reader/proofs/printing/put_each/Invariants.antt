use Rattle.std.proofs.Common.{◌≡◌}
use Rattle.cx_desk.specs.Outside.{Outside}
use Rattle.cx_desk.specs.Calls.{gained}
use Rattle.cnfx_reader.specs.Groups.{lines_up_to}
use Rattle.cnfx_reader.proofs.printing.put_each.Given as goal

abbrev pub invariant-loop-place : goal.invariant-loop-place
invariant-loop-place g l =
    (start : Outside) → g.D.Desk.outside l.initial.desk ≡ gained l.port (lines_up_to l.formula.constraints l.fn.places.from) start → g.D.Desk.outside l.desk ≡ gained l.port (lines_up_to l.formula.constraints l.place) start
