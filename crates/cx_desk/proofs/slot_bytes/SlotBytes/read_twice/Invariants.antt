use Rattle.std.proofs.Common.{◌<◌, ◌≤◌}
use Rattle.cx_desk.specs.SlotBytes.{BytesRead, taken_by, to_read}
use Rattle.cx_desk.proofs.slot_bytes.SlotBytes.read_twice.Given as goal

abbrev pub invariant-loop-self : goal.invariant-loop-self
invariant-loop-self g l = record {
  on : BytesRead l.fn.self (g.D.Desk.outside l.fn.desk) l.self (g.D.Desk.outside l.desk);
  within : taken_by l.self ≤ l.self.limit;
  falls : to_read l.self < to_read l.fn.self;
}

abbrev pub decreases-loop-self : goal.decreases-loop-self
decreases-loop-self g l = to_read l.self
