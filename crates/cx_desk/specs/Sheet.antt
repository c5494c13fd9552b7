-- What a put does to one port of a desk in memory.
use Rattle.std.specs.Prelude.{◌≡◌, ◌-◌, ◌++◌, ◌==◌, ◌||◌, ℕ, Bool, min, length, take, Result, is_err, MatchResult}
use Rattle.cx_desk.specs.declared.memory.sheet.Sheet.{Sheet}
use Rattle.cx_desk.specs.Outside.{Bytes}
use Rattle.cx_base.specs.Counts.{count_after}

-- the bytes that it still takes
abbrev pub sheet_room : Sheet → ℕ
sheet_room s = s.room - length s.bytes.items

-- a prefix of the piece was appended, or nothing was and the fault was counted
pub record PutsOn {E : Type 0} (fails : Bool) (most : ℕ) (piece : Bytes) (old : Sheet) (faults : ℕ) (outcome : Result ℕ E) (new : Sheet) (after : ℕ) : Type 0 where
  pub fails_where : is_err outcome ≡ (fails || (sheet_room old == 0))
  pub moves : MatchResult outcome
      (λ n. (n ≡ min most (min (sheet_room old) (length piece))) × (new.bytes.items ≡ old.bytes.items ++ take n piece) × (after ≡ faults))
      (λ _. (new.bytes.items ≡ old.bytes.items) × (after ≡ count_after faults))
  pub room : new.room ≡ old.room
