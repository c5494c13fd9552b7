use Rattle.std.proofs.Common.{◌≡◌, ◌≤◌, true, None}
use Rattle.cx_desk.specs.Outside.{started_in}
use Rattle.cx_desk.specs.SlotBytes.{taken_by, to_read}
use Rattle.step_text.specs.Slots.{ReadsOn}
use Rattle.step_text.proofs.slot_reader.SlotReader.find.Given as goal

abbrev pub invariant-loop-answer : goal.invariant-loop-answer
invariant-loop-answer g l = record {
  on : ReadsOn l.fn.self (g.D.Desk.outside l.fn.desk) l.self (g.D.Desk.outside l.desk);
  started : started_in l.self.bytes.slot (g.D.Desk.outside l.desk).started ≡ true;
  fresh : l.self.refused ≡ None;
  within : taken_by l.self.bytes ≤ l.self.bytes.limit;
}

abbrev pub decreases-loop-answer : goal.decreases-loop-answer
decreases-loop-answer g l = to_read l.self.bytes
