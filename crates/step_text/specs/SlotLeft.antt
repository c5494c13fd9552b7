-- A slot always has some steps left and an ending, and what a reader of it keeps is kept on.
use Rattle.std.specs.Prelude.{refl, ◌≡◌, ◌+◌, ◌||◌, ℕ, List, [], ◌++◌, length}
use Rattle.std.proofs.Common.{append-nil, length-append, sym, ap, ◌∙◌, arith}
use Rattle.cx_desk.specs.declared.desk.Slot.{Slot}
use Rattle.cx_desk.specs.Outside.{Outside, given_in}
use Rattle.cx_desk.specs.Calls.{taken}
use Rattle.cx_desk.specs.Gave.{Gave, nothing, joined}
use Rattle.cx_desk.specs.SlotBytes.{BytesState, taken_by}
use Rattle.cx_desk.proofs.Moves.{taken-twice, taken-none, or-assoc, or-none}
use Rattle.cx_texts.specs.Grammar.{Grammar}
use Rattle.cx_texts.specs.Pieces.{tokens_in}
use Rattle.cx_texts.proofs.Forms.{Forms}
use Rattle.cx_base.specs.Endings.{Ending}
use Rattle.step_text.specs.Left.{left_of}
use Rattle.step_text.specs.Slots.{SlotState, IsPossible, SlotLeaves, Counts, OnlyGave, SlotFrame}

-- what the slot gave may be all
pub some_text : (s : BytesState) (o : Outside) → (text : List ℕ) × IsPossible s o text
some_text s o = ((given_in s.slot o.given).bytes, ([], ((λ e. refl), sym (append-nil (given_in s.slot o.given).bytes))))

pub slot_is_left : {S : Type 0} (g : Grammar S) (all : Forms g) (s : SlotState) (o : Outside) (text : List ℕ) → IsPossible s.bytes o text → (steps : List S) × (ending : Ending) × SlotLeaves g s o text steps ending
slot_is_left g all s o text c =
    let left = left_of g all (tokens_in s.line s.bytes.place (s.bytes.bytes ++ c.0)) (taken_by s.bytes + length c.0) s.refused in
    (left.0, left.1, (c.0, c.1, left.2))

pub counts_itself : (s : BytesState) → Counts s nothing s
counts_itself s = record { count = omega arith; ends = sym (or-none s.ended); none = λ e. refl }

pub counts_on : (a b c : BytesState) (g h : Gave) → Counts a g b → Counts b h c → Counts a (joined g h) c
counts_on a b c g h x y = record {
  count = omega (arith, x.count, y.count, length-append g.bytes h.bytes);
  ends = y.ends ∙ ap (λ e. e || h.ended) x.ends ∙ or-assoc a.ended g.ended h.ended;
  none = λ e. λ i. x.none e i ++ y.none (x.ends ∙ ap (λ k. k || g.ended) e) i;
}

pub frame_itself : (s : BytesState) (o : Outside) → SlotFrame s o s o
frame_itself s o = record {
  slot = refl;
  limit = refl;
  got = nothing;
  counts = counts_itself s;
  read = (o.faults.reads, sym (taken-none s.slot o));
  few = λ h. h;
}

read_on : (slot other : Slot) (g h : Gave) (o p q : Outside) → other ≡ slot → OnlyGave slot g o p → OnlyGave other h p q → OnlyGave slot (joined g h) o q
read_on slot other g h o p q same (a, x) (b, y) =
    (b, y ∙ (λ i. record (taken (same i) h (x i)) { faults = record (x i).faults { reads = b } }) ∙ ap (λ (z : Outside). record z { faults = record o.faults { reads = b } }) (taken-twice slot g h o))

pub frame_on : (a : BytesState) (o : Outside) (b : BytesState) (p : Outside) (c : BytesState) (q : Outside) → SlotFrame a o b p → SlotFrame b p c q → SlotFrame a o c q
frame_on a o b p c q h k = record {
  slot = k.slot ∙ h.slot;
  limit = k.limit ∙ h.limit;
  got = joined h.got k.got;
  counts = counts_on a b c h.got k.got h.counts k.counts;
  read = read_on a.slot b.slot h.got k.got o p q h.slot h.read k.read;
  few = λ few. k.few (h.few few);
}
