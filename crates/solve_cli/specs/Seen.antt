-- What the top call's contract speaks of: files that may be the desk's, what the writes on each port took, the names that were
-- asked for and the faults. How far a slot was read is left out.
use Rattle.std.specs.Prelude.{◌≡◌, [], ◌++◌, Option, Some, unwrap_or}
use Rattle.cx_desk.specs.declared.desk.Slot.{Slot}
use Rattle.cx_desk.specs.declared.desk.Port.{Port}
use Rattle.cx_desk.specs.Outside.{Bytes, Files, Written, Asked, Faults, Outside, file_named, with_asked, written_on, with_written}
use Rattle.cx_base.specs.Counts.{Rose}

-- The files are an argument: of each call and of the whole run it is said what it did, for all files that agree with what the
-- reads gave, and where none are known.
pub record Seen : Type 0 where
  pub files : Option Files
  pub written : Written
  pub asked : Asked
  pub faults : Faults

-- a desk that has these files
abbrev pub seen : Option Files → Outside → Seen
seen files o = record { files = files; written = o.written; asked = o.asked; faults = o.faults }

-- a slot was asked for this name
abbrev pub asks : Slot → Bytes → Seen → Seen
asks slot name s = record s { asked = with_asked slot name s.asked }

abbrev pub append_to : Port → Bytes → Written → Written
append_to port bytes w = with_written port (written_on port w ++ bytes) w

-- the Proof port was asked for this name
abbrev pub asks_proof : Bytes → Seen → Seen
asks_proof name s = record s { asked = record s.asked { proof = Some name } }

abbrev pub without_proof : Written → Written
without_proof w = record w { proof = [] }

-- and it is an empty file of this name
abbrev pub creates : Bytes → Seen → Seen
creates name s = record (asks_proof name s) { written = without_proof s.written }

-- a port gained these bytes
abbrev pub says : Port → Bytes → Seen → Seen
says port bytes s = record s { written = append_to port bytes s.written }

-- a fault of reading was counted, and nothing else happened
pub record ReadFault (old new : Seen) : Type 0 where
  pub else_same : new ≡ record old { faults = record old.faults { reads = new.faults.reads } }
  pub rose : Rose old.faults.reads new.faults.reads

pub record WriteFault (old new : Seen) : Type 0 where
  pub else_same : new ≡ record old { faults = record old.faults { writes = new.faults.writes } }
  pub rose : Rose old.faults.writes new.faults.writes

pub record MessageFault (old new : Seen) : Type 0 where
  pub else_same : new ≡ record old { faults = record old.faults { messages = new.faults.messages } }
  pub rose : Rose old.faults.messages new.faults.messages

-- the bytes of a named file
abbrev pub text_named : Bytes → Files → Bytes
text_named name files = unwrap_or (file_named name files) []
