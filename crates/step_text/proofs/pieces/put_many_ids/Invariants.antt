use Rattle.std.proofs.Common.{◌≡◌, ◌≤◌, ◌-◌, length, take}
use Rattle.std.specs.List.{flat_map}
use Rattle.cx_desk.specs.Calls.{gained}
use Rattle.step_text.specs.Spaced.{spaced_id}
use Rattle.step_text.proofs.pieces.put_many_ids.Given as goal

abbrev pub invariant-loop-done : goal.invariant-loop-done
invariant-loop-done g l = record {
  within : l.done ≤ length l.members;
  put : g.D.Desk.outside l.desk ≡ gained l.port (flat_map spaced_id (take l.done l.members)) (g.D.Desk.outside l.initial.desk);
}

abbrev pub decreases-loop-done : goal.decreases-loop-done
decreases-loop-done g l = length l.members - l.done
