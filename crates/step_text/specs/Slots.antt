-- What is left of a text of steps that is read from a desk's slot, piece by piece.
use Rattle.std.specs.Prelude.{◌≡◌, ◌≤◌, ◌+◌, ◌-◌, ◌||◌, ℕ, Bool, true, List, [], ◌++◌, length, nat_lt, Option, Some, Result, Ok, Err}
use Rattle.cx_desk.specs.declared.desk.Slot.{Slot}
use Rattle.cx_desk.specs.Gave.{Gave}
use Rattle.cx_desk.specs.Outside.{Bytes, Outside, given_in}
use Rattle.cx_desk.specs.Calls.{taken, ReadFaulted}
use Rattle.cx_desk.specs.SlotBytes.{BytesState, taken_by, ReadingStops}
use Rattle.cx_desk.specs.declared.calls.ReadErr.{ReadErr}
use Rattle.cx_desk.specs.declared.draining.DrainErr.{DrainErr}
use Rattle.cx_desk.specs.declared.draining.DrainErr.TheVariants as drained
use Rattle.cx_texts.specs.Pieces.{tokens_in}
use Rattle.cx_texts.specs.declared.line_state.LineState.{LineState}
use Rattle.cx_texts.specs.Grammar.{Grammar}
use Rattle.cx_base.specs.Endings.{Ending}
use Rattle.step_text.specs.ReadRefusals.{refusal_of_read}
use Rattle.step_text.specs.Texts.{LeftOf}
use Rattle.step_text.specs.declared.source.TextRefusal.{TextRefusal}
use Rattle.step_text.specs.declared.source.TextRefusal.TheVariants.{BadToken, Unterminated, TooBig, TooLong, Memory, Failed}

-- the bytes that were read and not passed, the kind of line that the first of them is in, and the refusal that was answered, if any
pub record SlotState : Type 0 where
  pub bytes : BytesState
  pub line : LineState
  pub refused : Option TextRefusal

-- Of this text of the slot these bytes are still to come: it is what the slot gave and then these, and none once the end was seen.
abbrev pub IsToCome : BytesState → Bytes → Outside → Bytes → Type 0
IsToCome s text o more = (s.ended ≡ true → more ≡ []) × (text ≡ (given_in s.slot o.given).bytes ++ more)

-- the text may be the slot's
abbrev pub IsPossible : BytesState → Outside → Bytes → Type 0
IsPossible s o text = (more : Bytes) × IsToCome s text o more

-- whether the text passes the limit
abbrev pub is_too_long : BytesState → Outside → Bytes → Option Bool
is_too_long s o text = Some (nat_lt s.limit (taken_by s + (length text - length (given_in s.slot o.given).bytes)))

-- of this text these steps and this ending are left
abbrev pub SlotLeaves : {S : Type 0} → Grammar S → SlotState → Outside → Bytes → List S → Ending → Type 0
SlotLeaves g s o text steps ending = (more : Bytes) × IsToCome s.bytes text o more × LeftOf g (tokens_in s.line s.bytes.place (s.bytes.bytes ++ more)) (taken_by s.bytes + length more) s.refused steps ending

-- the slot gave these bytes, and then a fault was counted if it failed
abbrev pub TookBytes : {T : Type 0} → Slot → Gave → Result T TextRefusal → Outside → Outside → Type 0
TookBytes slot g (Ok answer) o p = p ≡ taken slot g o
TookBytes slot g (Err (BadToken place)) o p = p ≡ taken slot g o
TookBytes slot g (Err (Unterminated place)) o p = p ≡ taken slot g o
TookBytes slot g (Err (TooBig place)) o p = p ≡ taken slot g o
TookBytes slot g (Err TooLong) o p = p ≡ taken slot g o
TookBytes slot g (Err Memory) o p = p ≡ taken slot g o
TookBytes slot g (Err Failed) o p = ReadFaulted (taken slot g o) p

abbrev pub Took : {T : Type 0} → Slot → Result T TextRefusal → Outside → Outside → Type 0
Took slot result o p = (g : Gave) × TookBytes slot g result o p

-- what the slot gave is counted, the end is seen where it gave that, and it was not read after its end
pub record Counts (s : BytesState) (g : Gave) (t : BytesState) : Type 0 where
  pub count : taken_by t ≡ taken_by s + length g.bytes
  pub ends : t.ended ≡ (s.ended || g.ended)
  pub none : s.ended ≡ true → g.bytes ≡ []

-- the bytes that were read of the slot are counted
abbrev pub CountsTaken : {T : Type 0} → BytesState → Result T TextRefusal → Outside → BytesState → Outside → Type 0
CountsTaken s result o t p = (g : Gave) × Counts s g t × TookBytes s.slot g result o p

-- what a call leaves as it was
pub record SlotKept (s : BytesState) (o : Outside) (t : BytesState) (p : Outside) : Type 0 where
  pub slot : t.slot ≡ s.slot
  pub limit : t.limit ≡ s.limit
  pub rises : s.place ≤ t.place

-- more of the text was read, or blanks were passed, and the same is left of it
pub record ReadsOn (s : SlotState) (o : Outside) (t : SlotState) (p : Outside) : Type 0 where
  pub kept : SlotKept s.bytes o t.bytes p
  pub refused : t.refused ≡ s.refused
  pub took : (g : Gave) × Counts s.bytes g t.bytes × (p ≡ taken s.bytes.slot g o)
  pub text : (text more : Bytes) → IsToCome t.bytes text p more → (before : Bytes) × IsToCome s.bytes text o before
      × (tokens_in s.line s.bytes.place (s.bytes.bytes ++ before) ≡ tokens_in t.line t.bytes.place (t.bytes.bytes ++ more)) × (taken_by s.bytes + length before ≡ taken_by t.bytes + length more)

-- reading stops, and is refused for its reason
abbrev pub ReadingFails : BytesState → Outside → TextRefusal → BytesState → Outside → Type 0
ReadingFails s o refusal t p = (why : ReadErr) × (refusal ≡ refusal_of_read why) × ReadingStops s o why t p

-- the slot gave these bytes, and faults of reading were counted, and nothing else
abbrev pub OnlyGave : Slot → Gave → Outside → Outside → Type 0
OnlyGave slot g o p = (reads : ℕ) × (p ≡ record (taken slot g o) { faults = record o.faults { reads = reads } })

-- bytes of the slot were read, and faults of reading were counted, and nothing else
abbrev pub OnlyReads : Slot → Outside → Outside → Type 0
OnlyReads slot o p = (g : Gave) × OnlyGave slot g o p

-- The rest of the text was read, up to its end or until it passed its limit; with what was read before, at most one byte past the
-- limit was read, and none after the end.
abbrev pub DrainsRest : {T : Type 0} → BytesState → Outside → Result T DrainErr → Outside → Type 0
DrainsRest s o (Ok answer) p = (g : Gave) × (p ≡ taken s.slot g o) × (s.ended ≡ true → g.bytes ≡ []) × (taken_by s + length g.bytes ≤ s.limit) × ((s.ended || g.ended) ≡ true)
DrainsRest s o (Err drained.TooLong) p = (g : Gave) × (p ≡ taken s.slot g o) × (s.ended ≡ true → g.bytes ≡ []) × (taken_by s + length g.bytes ≡ s.limit + 1)
DrainsRest s o (Err drained.Failed) p = (g : Gave) × ReadFaulted (taken s.slot g o) p × (s.ended ≡ true → g.bytes ≡ []) × (taken_by s + length g.bytes ≤ s.limit)

-- what a source that reads a slot keeps, and what the slot gave meanwhile
pub record SlotFrame (s : BytesState) (o : Outside) (t : BytesState) (p : Outside) : Type 0 where
  pub slot : t.slot ≡ s.slot
  pub limit : t.limit ≡ s.limit
  pub got : Gave
  pub counts : Counts s got t
  pub read : OnlyGave s.slot got o p
  pub few : taken_by s ≤ s.limit + 1 → taken_by t ≤ t.limit + 1
