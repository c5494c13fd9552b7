-- What a desk shows of which some bytes of the proof wait to be written.
use Rattle.std.specs.Prelude.{◌≡◌, ◌<◌, ◌≤◌, ℕ, Bool, false, [], ◌++◌, take, length, Option, Some, None, Result, MatchResult, OnOk, ⊤}
use Rattle.cx_desk.specs.declared.desk.Port.{Port}
use Rattle.cx_desk.specs.declared.desk.Port.TheVariants.{Answer, Proof, Message}
use Rattle.cx_desk.specs.declared.spool.Spool.{Spool}
use Rattle.cx_desk.specs.Outside.{Bytes, Files, Outside}
use Rattle.cx_desk.specs.Agreeing.{MayHave}
use Rattle.cx_desk.specs.Calls.{gained, WriteFaulted}

-- the bytes that wait
abbrev pub waiting_in : {D : Type 0} → Spool D → Bytes
waiting_in s = s.waiting.0

-- what waits counts as written on the Proof port
abbrev pub with_waiting : Bytes → Outside → Outside
with_waiting bytes o = gained Proof bytes o

-- what a spool shows, by what the desk below it shows
abbrev pub spooled : {D : Type 0} → (D → Outside) → Spool D → Outside
spooled outside s = with_waiting (waiting_in s) (outside s.desk)

-- nothing waits any more; or a write failed, and what it did not take waits still
abbrev pub Flushes : {T E : Type 0} → Outside → Bytes → Result T E → Outside → Bytes → Type 0
Flushes old before result new after = MatchResult result
    (λ _. (after ≡ []) × (new ≡ with_waiting before old))
    (λ _. WriteFaulted (with_waiting before old) (with_waiting after new))

-- a byte more may wait, and all is as it was; or a write failed
abbrev pub MakesRoom : {T E : Type 0} → Outside → Bytes → Result T E → Outside → Bytes → Bool → Type 0
MakesRoom old before result new after full = MatchResult result
    (λ _. (full ≡ false) × (with_waiting after new ≡ with_waiting before old))
    (λ _. WriteFaulted (with_waiting before old) (with_waiting after new))

-- a prefix of the piece waits after the others
pub record Pushes (piece old : Bytes) (n : ℕ) (new : Bytes) : Type 0 where
  pub some : 0 < n
  pub high : n ≤ length piece
  pub bytes : new ≡ old ++ take n piece

-- nothing of the proof waits after an answer
abbrev pub IsWrittenBefore : {T E : Type 0} → Port → Result T E → Bytes → Type 0
IsWrittenBefore Answer result waits = OnOk result (waits ≡ [])
IsWrittenBefore Proof result waits = ⊤
IsWrittenBefore Message result waits = ⊤

-- the desk below has all that was shown; or a write failed, and it lacks the rest that was not taken
abbrev pub Finishes : {T E : Type 0} → Outside → Result T E → Outside → Type 0
Finishes shown written below = MatchResult written
    (λ _. below ≡ shown)
    (λ _. (rest : Bytes) × WriteFaulted shown (with_waiting rest below))

-- what waits makes no difference to the files
pub spooled_agrees : (bytes : Bytes) (o : Outside) (w : Option Files) → MayHave w o → MayHave w (with_waiting bytes o)
spooled_agrees bytes o None may = tt
spooled_agrees bytes o (Some files) may = record { formula = may.formula; second = may.second }
