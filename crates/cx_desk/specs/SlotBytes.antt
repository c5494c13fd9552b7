-- What is left of a text that is read from a slot, piece by piece.
use Rattle.std.specs.Prelude.{◌≡◌, ◌≤◌, ◌+◌, ◌-◌, ◌||◌, ℕ, Bool, true, false, [], ◌++◌, length, if◌then◌else◌, Result, MatchResult}
use Rattle.cx_desk.specs.declared.desk.Slot.{Slot}
use Rattle.cx_desk.specs.declared.ahead.AheadErr.{AheadErr}
use Rattle.cx_desk.specs.declared.ahead.AheadErr.TheVariants as ahead
use Rattle.cx_desk.specs.declared.calls.ReadErr.{ReadErr}
use Rattle.cx_desk.specs.declared.calls.ReadErr.TheVariants.{Memory, Failed, TooLong}
use Rattle.cx_desk.specs.declared.draining.DrainErr.{DrainErr}
use Rattle.cx_desk.specs.Gave.{Gave}
use Rattle.cx_desk.specs.Outside.{Bytes, Outside}
use Rattle.cx_desk.specs.Calls.{taken, ReadFaulted, DrainFails}

-- the slot and the greatest length of its text; the bytes that were read and not passed, and the place of the first of
-- them; whether the end was seen
pub record BytesState : Type 0 where
  pub slot : Slot
  pub limit : ℕ
  pub bytes : Bytes
  pub place : ℕ
  pub ended : Bool

-- how many bytes were read
abbrev pub taken_by : BytesState → ℕ
taken_by s = s.place + length s.bytes

-- how many bytes may still be read, and one more as long as the end was not seen
abbrev pub to_read : BytesState → ℕ
to_read s = (s.limit - taken_by s) + (if s.ended then 0 else 1)

-- what reading leaves as it was
pub record BytesKept (s t : BytesState) : Type 0 where
  pub slot : t.slot ≡ s.slot
  pub limit : t.limit ≡ s.limit
  pub place : t.place ≡ s.place

-- what the slot gave comes after the bytes that were there
pub record BytesRead (s : BytesState) (o : Outside) (t : BytesState) (p : Outside) : Type 0 where
  pub kept : BytesKept s t
  pub got : Gave
  pub took : p ≡ taken s.slot got o
  pub after : t.bytes ≡ s.bytes ++ got.bytes
  pub ends : t.ended ≡ (s.ended || got.ended)

-- reading stops, after what was read until then: no memory, a fault, or one byte past the limit
abbrev pub Stopped : BytesState → Outside → ReadErr → BytesState → Outside → Type 0
Stopped s o Memory t p = (taken_by t ≤ t.limit) × ((g : Gave) × (taken_by t ≡ taken_by s + length g.bytes) × (p ≡ taken s.slot g o) × (t.ended ≡ (s.ended || g.ended)))
Stopped s o Failed t p = (taken_by t ≤ t.limit) × ((g : Gave) × (taken_by t ≡ taken_by s + length g.bytes) × ReadFaulted (taken s.slot g o) p × (t.ended ≡ (s.ended || g.ended)))
Stopped s o TooLong t p = (taken_by t ≡ t.limit + 1) × (t.ended ≡ false) × BytesRead s o t p

pub record ReadingStops (s : BytesState) (o : Outside) (e : ReadErr) (t : BytesState) (p : Outside) : Type 0 where
  pub kept : BytesKept s t
  pub why : Stopped s o e t p

abbrev pub ReadsBytes : {T : Type 0} → BytesState → Outside → Result T ReadErr → BytesState → Outside → Type 0
ReadsBytes s o result t p = MatchResult result (λ _. BytesRead s o t p) (λ e. ReadingStops s o e t p)

-- all that was to come was read, nothing where the end was seen before, and the whole text has this length
pub record RestRead (s : BytesState) (o : Outside) (len : ℕ) (p : Outside) : Type 0 where
  pub got : Gave
  pub took : p ≡ taken s.slot got o
  pub whole : len ≡ taken_by s + length got.bytes
  pub fits : len ≤ s.limit
  pub ends : (s.ended || got.ended) ≡ true
  pub none : s.ended ≡ true → got.bytes ≡ []

-- the rest of the text was read, or a byte after the limit, or there was a fault
abbrev pub ReadsRest : BytesState → Outside → Result ℕ DrainErr → Outside → Type 0
ReadsRest s o result p = MatchResult result (λ len. RestRead s o len p) (λ e. (s.ended ≡ false) × DrainFails s.slot (s.limit - taken_by s) o e p)

-- why reading ahead failed, as why reading failed
abbrev pub read_err_of : AheadErr → ReadErr
read_err_of ahead.Memory = Memory
read_err_of ahead.Failed = Failed
