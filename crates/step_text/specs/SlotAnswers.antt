-- What a reader of a slot answers, if it has refused nothing yet.
use Rattle.std.specs.Prelude.{◌≡◌, ◌<◌, ◌≤◌, ◌+◌, List, Option, None, Result, IfOk, IfErr}
use Rattle.cx_base.specs.Endings.{Ending}
use Rattle.cx_desk.specs.Outside.{Bytes, Outside}
use Rattle.cx_desk.specs.SlotBytes.{BytesState, taken_by}
use Rattle.cx_texts.specs.Grammar.{Grammar}
use Rattle.step_text.specs.declared.source.TextRefusal.{TextRefusal}
use Rattle.step_text.specs.declared.source.TextRefusal.TheVariants.{BadToken, Unterminated, TooBig, TooLong, Memory, Failed}
use Rattle.step_text.specs.Slots.{SlotState, IsPossible, is_too_long, SlotLeaves, SlotKept, CountsTaken, Took}
use Rattle.step_text.specs.Sources.{Gives, IsTooLongOnly, PlaceRises, SpentAs, StuckAs}
use Rattle.step_text.specs.Texts.{is_spent_by, stuck_by}

-- the steps and the ending that are left of a text for a reader and what its desk shows
abbrev pub PairLeaves : {S : Type 0} → Grammar S → Bytes → SlotState × Outside → List S → Ending → Type 0
PairLeaves g text x steps ending = SlotLeaves g x.0 x.1 text steps ending

-- a byte past the limit was read just where the text is refused as too long
abbrev pub IsPastLimit : TextRefusal → BytesState → Type 0
IsPastLimit (BadToken place) t = taken_by t ≤ t.limit
IsPastLimit (Unterminated place) t = taken_by t ≤ t.limit
IsPastLimit (TooBig place) t = taken_by t ≤ t.limit
IsPastLimit TooLong t = t.limit < taken_by t
IsPastLimit Memory t = taken_by t ≤ t.limit
IsPastLimit Failed t = taken_by t ≤ t.limit

-- a text that may be the slot's now might have been it before, and passes its limit as it did; it is too long only where it does
abbrev pub Narrows : {S : Type 0} → BytesState → Outside → Result (Option S) TextRefusal → BytesState → Outside → Bytes → Type 0
Narrows s o result t p text = IsPossible s o text × (is_too_long t p text ≡ is_too_long s o text) × IsTooLongOnly (is_too_long s o text) result

pub record IsAnswer {S : Type 0} (g : Grammar S) (s : SlotState) (o : Outside) (result : Result (Option S) TextRefusal) (t : SlotState) (p : Outside) : Type 0 where
  pub gives : (text : Bytes) → IsPossible t.bytes p text → Gives (PairLeaves g text) (s, o) result (t, p)
  pub narrows : (text : Bytes) → IsPossible t.bytes p text → Narrows s.bytes o result t.bytes p text
  pub kept : SlotKept s.bytes o t.bytes p
  pub took : CountsTaken s.bytes result o t.bytes p
  pub past : IfErr result (λ e. IsPastLimit e t.bytes)
  pub rises : PlaceRises result s.bytes.place t.bytes.place
  pub fresh : IfOk result (λ _. t.refused ≡ None)

-- ---- what it answers whatever it refused before

-- of a text that may be the slot's now
pub record SaysOf {S : Type 0} (g : Grammar S) (text : Bytes) (s : SlotState) (o : Outside) (result : Result (Option S) TextRefusal) (t : SlotState) (p : Outside) : Type 0 where
  pub step : Gives (PairLeaves g text) (s, o) result (t, p)
  pub narrows : Narrows s.bytes o result t.bytes p text

-- whether it may be asked again, and the refusal that it goes on giving
pub record RefusesAfter {T : Type 0} (before : Option TextRefusal) (result : Result T TextRefusal) (now : Option TextRefusal) : Type 0 where
  pub spent : SpentAs result (is_spent_by now)
  pub stuck : StuckAs (stuck_by before) result (stuck_by now)

-- bytes of its slot were read and counted, and nothing else
pub record ReadsSlot {T : Type 0} (s : BytesState) (o : Outside) (result : Result T TextRefusal) (t : BytesState) (p : Outside) : Type 0 where
  pub kept : SlotKept s o t p
  pub took : Took s.slot result o p
  pub counted : CountsTaken s result o t p

-- it reads at most one byte past its limit, and passes none there
pub record IsBounded (t : BytesState) : Type 0 where
  pub past : taken_by t ≤ t.limit + 1
  pub within : t.place ≤ t.limit
  pub few : t.limit ≤ 4294967295
