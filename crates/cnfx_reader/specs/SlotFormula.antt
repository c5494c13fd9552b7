-- A formula that is read from a slot: what is read of its text from where its reader is.
use Rattle.std.specs.Prelude.{◌≡◌, ◌≤◌, ◌+◌, ℕ, true, false, [], ◌++◌, length, drop, Result}
use Rattle.cx_desk.specs.declared.desk.Slot.{Slot}
use Rattle.cx_desk.specs.Gave.{Gave}
use Rattle.cx_desk.specs.Outside.{Bytes, Outside}
use Rattle.cx_desk.specs.Calls.{taken}
use Rattle.cx_desk.specs.SlotBytes.{BytesState, taken_by}
use Rattle.cx_texts.specs.declared.offence.Offence.{Offence}
use Rattle.cnfx_reader.specs.Body.{Outcome}
use Rattle.cnfx_reader.specs.PieceSteps.{answer_from, IsPhaseIn, IsRefusedBy}
use Rattle.cnfx_reader.specs.TokensLeft.{formula_tokens_from, formula_tokens_in, formula_tokens_within}
use Rattle.cnfx_reader.specs.declared.header_token.HeaderPart.TheVariants.{P}
use Rattle.cnfx_reader.specs.declared.piece.Phase.TheVariants.{Head}
use Rattle.cnfx_reader.specs.declared.refusal.ReadRefusal.{ReadRefusal}
use Rattle.cnfx_reader.specs.declared.slot_formula.SlotFormula.{SlotFormula}

-- what is read of the text from here on, if these bytes come
abbrev pub answer_of : SlotFormula → ℕ → Bytes → Result (ℕ × Outcome) Offence
answer_of s len more = answer_from s.phase len s.builder (formula_tokens_in s.line s.bytes.place (s.bytes.bytes ++ more))

-- what is read of a whole text
abbrev pub answer_of_text : ℕ → Bytes → Result (ℕ × Outcome) Offence
answer_of_text len text = answer_from (Head P) len (record { constraints = []; unfinished = [] }) (formula_tokens_from 0 text)

-- the first bytes were passed
abbrev pub PassedBytes : BytesState → BytesState → Type 0
PassedBytes s t = (k : ℕ) × (k ≤ length s.bytes) × (t ≡ record s { bytes = drop k s.bytes; place = s.place + k })

-- bytes were passed or taken, and the same is read of the text from here on
pub record GoesOn (s t : SlotFormula) : Type 0 where
  pub passed : PassedBytes s.bytes t.bytes
  pub fits : IsPhaseIn s.phase s.builder → IsPhaseIn t.phase t.builder
  pub same : (len : ℕ) (more : Bytes) → answer_of s len more ≡ answer_of t len more

-- bytes were passed, and those at hand are the rest of the formula, which begins within a kept line
pub record IsLast (s t : SlotFormula) : Type 0 where
  pub passed : PassedBytes s.bytes t.bytes
  pub fits : IsPhaseIn s.phase s.builder → IsPhaseIn t.phase t.builder
  pub same : (len : ℕ) (more : Bytes) → (t.bytes.ended ≡ true → more ≡ []) → answer_of s len more ≡ answer_from t.phase len t.builder (formula_tokens_within t.bytes.place t.bytes.bytes)

-- the text is refused so, whatever comes
pub record IsRefusedIn (e : ReadRefusal) (s t : SlotFormula) : Type 0 where
  pub passed : PassedBytes s.bytes t.bytes
  pub why : (len : ℕ) (more : Bytes) → IsRefusedBy e (answer_of s len more)

-- nothing was read yet
abbrev pub fresh : Slot → ℕ → BytesState
fresh slot limit = record { slot = slot; limit = limit; bytes = []; place = 0; ended = false }

-- The slot was read so far, and nothing of its text before: what it gave, followed by any bytes, is read as they are from here on.
pub record HasRead (slot : Slot) (limit : ℕ) (o : Outside) (s : SlotFormula) (p : Outside) : Type 0 where
  pub same_slot : s.bytes.slot ≡ slot
  pub same_limit : s.bytes.limit ≡ limit
  pub few : taken_by s.bytes ≤ limit
  pub got : Gave
  pub took : p ≡ taken slot got o
  pub count : length got.bytes ≡ taken_by s.bytes
  pub ends : got.ended ≡ s.bytes.ended
  pub fits : IsPhaseIn s.phase s.builder
  pub same : (len : ℕ) (more : Bytes) → answer_of_text len (got.bytes ++ more) ≡ answer_of s len more
