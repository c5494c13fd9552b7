-- What a desk without an end shows: it knows no files, and no call on it fails.
use Rattle.std.specs.Prelude.{◌≡◌, ℕ, false, [], None, option_map, string_bytes}
use Rattle.cx_desk.specs.declared.repeat.RepeatDesk.{RepeatDesk}
use Rattle.cx_desk.specs.Gave.{nothing}
use Rattle.cx_desk.specs.Noted.{gave_of}
use Rattle.cx_desk.specs.Outside.{Outside}

-- what it shows of the outside
abbrev pub endless : RepeatDesk → Outside
endless d = record {
  files = None;
  given = record { formula = gave_of d.formula.gave; second = gave_of d.second.gave };
  written = record { answer = d.answer.bytes; proof = d.log.bytes; message = d.message.bytes };
  asked = record {
    formula = option_map string_bytes d.formula.name;
    second = option_map string_bytes d.second.name;
    proof = option_map string_bytes d.proof;
  };
  started = record { formula = d.formula.started; second = d.second.started };
  faults = record { reads = 0; writes = 0; messages = 0 };
}

-- the byte that its slots give
abbrev pub byte_of : RepeatDesk → ℕ
byte_of d = d.byte

-- the bytes that its slots have given, as far as 64 bits count them
abbrev pub taken_of : RepeatDesk → ℕ
taken_of d = d.taken

-- nothing was asked for, and nothing given
abbrev pub IsUntouched : RepeatDesk → Type 0
IsUntouched d = (taken_of d ≡ 0) × (endless d ≡ record {
  files = None;
  given = record { formula = nothing; second = nothing };
  written = record { answer = []; proof = []; message = [] };
  asked = record { formula = None; second = None; proof = None };
  started = record { formula = false; second = false };
  faults = record { reads = 0; writes = 0; messages = 0 };
})
