use Rattle.std.proofs.Common.{◌≡◌, length}
use Rattle.cx_desk.specs.Spooled.{with_waiting}
use Rattle.cx_desk.proofs.spool.Spool.flush.Given as goal

-- what waits and what was written are the same bytes
abbrev pub invariant-loop-self : goal.invariant-loop-self
invariant-loop-self g l = with_waiting l.self.waiting.0 (g.D.Desk.outside l.self.desk) ≡ with_waiting l.initial.self.waiting.0 (g.D.Desk.outside l.initial.self.desk)

abbrev pub decreases-loop-self : goal.decreases-loop-self
decreases-loop-self g l = length l.self.waiting.0
