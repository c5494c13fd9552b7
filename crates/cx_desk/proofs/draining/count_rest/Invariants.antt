use Rattle.std.proofs.Common.{false, ◌-◌, ◌≤◌}
use Rattle.cx_desk.specs.Calls.{TookSome}
use Rattle.cx_desk.proofs.draining.count_rest.Given as goal

-- what is allowed still has lost what was passed over
abbrev pub invariant-loop-count : goal.invariant-loop-count
invariant-loop-count g l =
    (l.room ≤ l.left) × TookSome l.slot (l.left - l.room) false (g.D.Desk.outside l.initial.desk) (g.D.Desk.outside l.desk)

abbrev pub decreases-loop-count : goal.decreases-loop-count
decreases-loop-count g l = l.room
