-- What the desk over the system shows: what its reads gave and its writes took; it knows no files.
use Rattle.std.specs.Prelude.{◌≡◌, Bool, [], None, false, is_some, option_map, string_bytes}
use Rattle.cx_system.specs.declared.real_desk.RealDesk.{RealDesk}
use Rattle.cx_desk.specs.Gave.{nothing}
use Rattle.cx_desk.specs.Noted.{gave_of}
use Rattle.cx_desk.specs.Outside.{Outside}

abbrev pub outside_of : RealDesk → Outside
outside_of d = record {
  files = None;
  given = record { formula = gave_of d.formula.gave; second = gave_of d.second.gave };
  written = record { answer = d.answer.bytes; proof = d.log.bytes; message = d.message.bytes };
  asked = record {
    formula = option_map string_bytes d.formula.name;
    second = option_map string_bytes d.second.name;
    proof = option_map string_bytes d.proof_name;
  };
  started = record { formula = d.formula.is_started; second = d.second.is_started };
  faults = record { reads = d.read_faults; writes = d.write_faults; messages = d.message_faults };
}

-- the Proof port was given a file
abbrev pub has_file : RealDesk → Bool
has_file d = is_some d.proof

-- nothing was asked for, given or taken
abbrev pub IsUntouched : Outside → Type 0
IsUntouched o = o ≡ record {
  files = None;
  given = record { formula = nothing; second = nothing };
  written = record { answer = []; proof = []; message = [] };
  asked = record { formula = None; second = None; proof = None };
  started = record { formula = false; second = false };
  faults = record { reads = 0; writes = 0; messages = 0 };
}
