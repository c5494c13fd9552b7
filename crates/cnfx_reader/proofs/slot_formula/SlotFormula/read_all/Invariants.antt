use Rattle.std.proofs.Common.{◌≡◌, ◌+◌, true, length}
use Rattle.cx_desk.specs.Outside.{started_in}
use Rattle.cx_desk.specs.SlotBytes.{to_read}
use Rattle.cnfx_reader.specs.SlotFormula.{HasRead}
use Rattle.cnfx_reader.proofs.slot_formula.SlotFormula.read_all.Given as goal

abbrev pub invariant-loop-self : goal.invariant-loop-self
invariant-loop-self g l = record {
  read : HasRead l.initial.self.bytes.slot l.initial.self.bytes.limit (g.D.Desk.outside l.initial.desk) l.self (g.D.Desk.outside l.desk);
  started : started_in l.self.bytes.slot (g.D.Desk.outside l.desk).started ≡ true;
}

abbrev pub decreases-loop-self : goal.decreases-loop-self
decreases-loop-self g l = (to_read l.self.bytes + to_read l.self.bytes) + length l.self.bytes.bytes
