-- Bytes that wait to be written on the answer port.
use Rattle.std.specs.Prelude.{◌≡◌, ℕ, ◌<◌, ◌++◌, length, take, Result, MatchResult}
use Rattle.cx_desk.specs.declared.desk.Port.TheVariants.{Answer}
use Rattle.cx_desk.specs.Outside.{Bytes, Outside}
use Rattle.cx_desk.specs.Calls.{gained, PutFaulted}

-- the port gained some bytes, and those that wait now come after them: together, those that waited and the piece
abbrev pub Takes : Bytes → Outside → Bytes → Outside → Bytes → Type 0
Takes piece old before new after = (sent : Bytes) × (new ≡ gained Answer sent old) × (sent ++ after ≡ before ++ piece)

-- a proper prefix was written before a fault
abbrev pub Fails : Bytes → Outside → Outside → Type 0
Fails bytes old new = (k : ℕ) × (k < length bytes) × PutFaulted Answer (gained Answer (take k bytes) old) new

-- the piece is added to the bytes that wait, or some of them all were written before a fault
abbrev pub Adds : {T E : Type 0} → Bytes → Outside → Bytes → Result T E → Outside → Bytes → Type 0
Adds piece old before result new after = MatchResult result (λ _. Takes piece old before new after) (λ _. Fails (before ++ piece) old new)
