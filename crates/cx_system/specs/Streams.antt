-- What a read from a stream and a write to one did, and what was noted of it.
use Rattle.std.specs.Prelude.{◌≡◌, ◌<◌, ◌≤◌, ℕ, take, length, Some, true, option_map, string_bytes, Result, IfOk, MatchResult, Option, MatchOption}
use Rattle.std.specs.Io.KnownBytes.{Keeps, Consumes, Appends, IsAtEnd}
use Rattle.cx_system.specs.declared.source.RealSlot.{RealSlot}
use Rattle.cx_desk.specs.Gave.{Gave, nothing, piece, joined}
use Rattle.cx_desk.specs.Noted.{gave_of}
use Rattle.cx_desk.specs.Outside.{Bytes}
use Rattle.cx_base.specs.Counts.{Rose}

-- the bytes of a call are noted after the others; where it fails, none
abbrev pub ReadsNoted : Bytes → Gave → Option ℕ → Gave → Type 0
ReadsNoted into old result new = MatchOption result (new ≡ old) (λ n. (n ≤ length into) × (new ≡ joined old (piece (take n into))))

abbrev pub WritesNoted : {E : Type 0} → Bytes → Gave → ℕ → Result ℕ E → Gave → ℕ → Type 0
WritesNoted bytes old faults result new after = MatchResult result
    (λ n. (0 < n) × (n ≤ length bytes) × (new ≡ joined old (piece (take n bytes))) × (after ≡ faults))
    (λ _. (new ≡ old) × Rose faults after)

-- the name is kept; where the file was opened, nothing of it was given yet
abbrev pub StartsReal : {T E : Type 0} → Bytes → RealSlot → ℕ → Result T E → RealSlot → ℕ → Type 0
StartsReal name old faults result new after = MatchResult result
    (λ _. (option_map string_bytes new.name ≡ Some name) × (new.is_started ≡ true) × (gave_of new.gave ≡ nothing) × (after ≡ faults))
    (λ _. (option_map string_bytes new.name ≡ Some name) × (new.is_started ≡ old.is_started) × (gave_of new.gave ≡ gave_of old.gave) × Rose faults after)

-- Of a reader that tells its bytes: what came is what it had next, and nothing came only at its end.
abbrev pub ReadsTold : Option Bytes → Option Bytes → Option ℕ → Bytes → Type 0
ReadsTold old new result into = MatchOption result (Keeps old new) (λ n. Consumes old new (take n into) × (n ≡ 0 → 0 < length into → IsAtEnd new))

-- Of a writer that tells its bytes: what it took comes after the others.
abbrev pub WritesTold : {E : Type 0} → Option Bytes → Option Bytes → Result ℕ E → Bytes → Type 0
WritesTold old new result bytes = IfOk result (λ n. Appends old new (take n bytes))
